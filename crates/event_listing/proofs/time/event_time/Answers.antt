use Rattle.std.proofs.Common.{inl, inr, refl}
use Rattle.event_listing.proofs.Instants.{second_spelling}
use Rattle.event_listing.proofs.time.event_time.Goals as goal

pub returns-in-Some : goal.returns-in-Some
returns-in-Some c = (record { content = c.in-Some.content.now; eight = c.in-Some.ensures.0; spelled = inl c.in-Some.ensures.1 }, refl)

pub returns-in-None : goal.returns-in-None
returns-in-None c = second_spelling c.args.time.now c.eight_behind-in-None.result c.in-None.ensures c.eight_behind-in-None.ensures
