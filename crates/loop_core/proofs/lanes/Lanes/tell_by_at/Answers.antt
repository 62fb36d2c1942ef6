use Rattle.std.proofs.Common.{◌∙◌, ap}
use Rattle.loop_core.specs.Lanes.{LaneState, LanesState}
use Rattle.loop_core.proofs.KeepingLanes.{kept_at}
use Rattle.loop_core.proofs.lanes.Lanes.tell_by_at.Goals as goal

pub returns : goal.returns
returns g c =
    let lanes = c.self.inside.lanes.items in
    let old = c.in-Some.lane.now in
    let new = c.tell_by.new.self in
    let at = c.in-Some.ensures.value in
    let is = c.tell_by.ensures in
    let was = c.self.view_is in
    λ i.
    record {
      terms = (kept_at (λ (l : LaneState _). l.terms) lanes c.args.at old new at (ap (λ (l : LaneState _). l.terms) is) ∙ ap (λ (s : LanesState _). s.terms) was) i;
      plans = (kept_at (λ (l : LaneState _). l.plan) lanes c.args.at old new at (ap (λ (l : LaneState _). l.plan) is) ∙ ap (λ (s : LanesState _). s.plans) was) i;
      waiting = (kept_at (λ (l : LaneState _). l.waiting) lanes c.args.at old new at (ap (λ (l : LaneState _). l.waiting) is) ∙ ap (λ (s : LanesState _). s.waiting) was) i;
      later = (kept_at (λ (l : LaneState _). l.later) lanes c.args.at old new at (ap (λ (l : LaneState _). l.later) is) ∙ ap (λ (s : LanesState _). s.later) was) i;
      room = ap (λ (s : LanesState _). s.room) was i;
      fault = ap (λ (s : LanesState _). s.fault) was i;
      time = ap (λ (s : LanesState _). s.time) was i;
      short = ap (λ (s : LanesState _). s.short) was i;
    }
