use Rattle.std.proofs.Common.{◌∙◌, subst}
use Rattle.std.specs.Prelude.{All}
use Rattle.relay_notices.specs.Telling.{IsQuiet}
use Rattle.relay_notices.proofs.Saying.{said_is, never_untold}
use Rattle.relay_notices.proofs.limiter.Limiter.take.Goals as goal

pub returns-clause-said : goal.returns-clause-said
returns-clause-said g c =
    let due = c.in_ok-place.ensures.due in
    said_is c.args.now c.in_ok-place.place c.in_ok-pending.pending c.deref.result.now c.self.inside.slots.items c.args.self.now due.0 c.index-slot.result.now c.said.result c.deref.ensures.value c.self.view_is due.1
    c.index-slot.ensures c.in_ok-pending.was due.2 c.said.ensures

pub returns-in_err-place-clause-none : goal.returns-in_err-place-clause-none
returns-in_err-place-clause-none g c = rw c.from_residual.ensures (subst (All (IsQuiet c.args.now)) (c.deref.ensures.value ∙ c.self.view_is) c.in_err-place.ensures.none)

pub returns-in_err-pending-clause-none : goal.returns-in_err-pending-clause-none
returns-in_err-pending-clause-none g c =
    let due = c.in_ok-place.ensures.due in
    absurd (never_untold c.args.now c.in_ok-place.place c.deref.result.now c.self.inside.slots.items due.0 c.index-slot.result.now c.deref.ensures.value due.1 c.index-slot.ensures c.in_err-pending.was due.2)
