use Rattle.std.proofs.Common.{subst, refl, ◌≡◌, ◌++◌, ◌∷◌, [], List, Contains}
use Rattle.way_listing.specs.Sendings.{Adds, Sending, sending}
use Rattle.way_listing.proofs.Adding.{adds_one, adds_there}
use Rattle.way_listing.proofs.sent.add.Goals as goal

pub returns-in_ok-push : goal.returns-in_ok-push
returns-in_ok-push g c =
    let one : Sending = sending (record { host = c.args.host.now; port = c.args.port }) c.args.tag.now in
    let new : Contains c.args.found.now.items one → ⊥ = λ there. absurd (let is = (rw c.deref.ensures.value at c.if-not-is_among.ensures).1 there in cc) in
    rw (c.in_ok-push.ensures.items, c.in_ok-new.ensures) (adds_one c.args.found.now.items one new)

pub returns-else-not-is_among : goal.returns-else-not-is_among
returns-else-not-is_among g c =
    let there = (rw c.deref.ensures.value at c.if-not-is_among.ensures).0 refl in
    adds_there _ c.args.found.now.items (λ other e. subst (λ x. Contains c.args.found.now.items x) e there)
