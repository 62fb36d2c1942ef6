use Rattle.std.proofs.Common.{subst, sym, refl, ◌∙◌, Contains}
use Rattle.std.proofs.lemmas.Option.{same_Some}
use Rattle.relay_net.proofs.Growing.{grows_there}
use Rattle.relay_net.proofs.following.add.Goals as goal

pub returns-else-not-is_among : goal.returns-else-not-is_among
returns-else-not-is_among g c =
    let there = (rw c.deref.ensures.value at c.if-not-is_among.ensures).0 refl in
    grows_there _ c.args.found.now.items (λ other e. subst (λ x. Contains c.args.found.now.items x) (same_Some c.in-Some.arrival other (sym c.in-Some.is ∙ e)) there)
