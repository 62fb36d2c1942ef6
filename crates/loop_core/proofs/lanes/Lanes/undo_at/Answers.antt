use Rattle.std.proofs.Common.{◌∙◌, ap, arith, refl}
use Rattle.loop_core.specs.Lanes.{LaneState, LanesState}
use Rattle.loop_core.proofs.Appending.{undone_there}
use Rattle.loop_core.proofs.KeepingLanes.{kept_at}
use Rattle.loop_core.proofs.lanes.Lanes.undo_at.Goals as goal

pub returns : goal.returns
returns g c =
    let lanes = c.self.inside.lanes.items in
    let at = c.in-Some.ensures.value in
    let is = c.undo.ensures in
    let was = c.self.view_is in
    λ i.
    record {
      terms = (kept_at (λ (l : LaneState _). l.terms) lanes c.args.buffer.0 c.in-Some.lane.now c.undo.new.self at (ap (λ (l : LaneState _). l.terms) is) ∙ ap (λ (s : LanesState _). s.terms) was) i;
      plans = (kept_at (λ (l : LaneState _). l.plan) lanes c.args.buffer.0 c.in-Some.lane.now c.undo.new.self at (ap (λ (l : LaneState _). l.plan) is) ∙ ap (λ (s : LanesState _). s.plans) was) i;
      waiting =
          undone_there lanes c.args.buffer c.in-Some.lane.now c.undo.new.self c.args.self.now.waiting (omega (arith, c.in-Some.ensures.variant.0 refl, c.self.inside.lanes.ok.0)) at is
          (ap (λ (s : LanesState _). s.waiting) was) i;
      later = (kept_at (λ (l : LaneState _). l.later) lanes c.args.buffer.0 c.in-Some.lane.now c.undo.new.self at (ap (λ (l : LaneState _). l.later) is) ∙ ap (λ (s : LanesState _). s.later) was) i;
      room = ap (λ (s : LanesState _). s.room) was i;
      fault = ap (λ (s : LanesState _). s.fault) was i;
      time = ap (λ (s : LanesState _). s.time) was i;
      short = ap (λ (s : LanesState _). s.short) was i;
    }
