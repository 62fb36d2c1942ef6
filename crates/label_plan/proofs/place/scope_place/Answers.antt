use Rattle.std.proofs.Common.{length, refl}
use Rattle.std.proofs.lemmas.Option.{slice_get_read, slice_get_past}
use Rattle.label_plan.proofs.place.scope_place.Goals as goal

pub returns-in-None : goal.returns-in-None
returns-in-None g c = rw (slice_get_past c.args.relays.now c.args.place c.in-None.ensures.lookup.3) refl

pub returns-in-Some : goal.returns-in-Some
returns-in-Some g c =
    let relays = c.args.relays.now in
    let at = c.in-Some.ensures.lookup in
    rw (slice_get_read relays (length relays) c.args.place c.in-Some.node.now refl at.3.0 at.1) c.scope_of.ensures
