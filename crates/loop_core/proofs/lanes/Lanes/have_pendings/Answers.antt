use Rattle.std.proofs.Common.{◌<◌, List, ap, length, subst, sym}
use Rattle.std.specs.Prelude.{Any}
use Rattle.ack_receipt.specs.Deliveries.{Pended}
use Rattle.loop_core.specs.Lanes.{AppendsWait, LaneState, LanesState}
use Rattle.loop_core.proofs.Pendings.{has_one, one_waits}
use Rattle.loop_core.proofs.lanes.Lanes.have_pendings.Goals as goal

pub returns : goal.returns
returns g c =
    let lanes = c.self.inside.lanes.items in
    let waiting : LaneState _ → List Pended = λ lane. lane.waiting in
    let P = Any {X = LaneState _} (λ lane. 0 < length lane.waiting) in
    let was = ap (λ (s : LanesState _). s.waiting) c.self.view_is in (
      λ yes. subst AppendsWait was (one_waits waiting lanes (subst P c.deref.ensures.value (c.have_waiting.ensures.0 yes))),
      λ waits. c.have_waiting.ensures.1 (subst P (sym c.deref.ensures.value) (has_one waiting lanes (subst AppendsWait (sym was) waits))),
    )
