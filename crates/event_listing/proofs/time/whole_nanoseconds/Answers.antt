use Rattle.std.proofs.Common.{ℤ, pos, ◌*ℤ◌, FitsSigned, subst, sym, ap, ◌∙◌}
use Rattle.std.specs.Int.{w128}
use Rattle.std.proofs.lemmas.Int.{to_z-of_z}
use Rattle.event_listing.proofs.Integers.{int_same, nanos_fit}
use Rattle.event_listing.proofs.time.whole_nanoseconds.Goals as goal

pub overflow_mul-result : goal.overflow_mul-result
overflow_mul-result c =
    subst (λ (z : ℤ). FitsSigned w128 (z *ℤ pos 1000000000)) (sym (int_same c.args.time.now c.args.seconds c.type_inv.time c.requires))
    (nanos_fit c.args.time.now c.args.seconds c.type_inv.time c.requires)

pub returns : goal.returns
returns c =
    let same = int_same c.args.time.now c.args.seconds c.type_inv.time c.requires in
    let fits = subst (λ (z : ℤ). FitsSigned w128 (z *ℤ pos 1000000000)) (sym same) (nanos_fit c.args.time.now c.args.seconds c.type_inv.time c.requires) in
    to_z-of_z w128 _ fits ∙ ap (λ (z : ℤ). z *ℤ pos 1000000000) same
