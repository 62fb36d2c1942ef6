use Rattle.std.proofs.Common.{◌≡◌, ◌∙◌, Some, ap, subst, sym}
use Rattle.loop_core.specs.Lanes.{LaneState}
use Rattle.loop_core.specs.Schedules.{Timing, due_in, timing_of}
use Rattle.loop_core.proofs.Leaving.{one_less}
use Rattle.loop_core.proofs.lane.Lane.queue_due.Goals as goal

pub chunks-preserved : goal.chunks-preserved
chunks-preserved g c =
    let staged = c.chunks.self-inside.schedule.chunks in
    let due =
    subst (λ (t : Timing). due_in t.mode t.interval c.args.now staged ≡ Some c.in-Some-due.serial) c.chunks.invariant.kept.timing (sym c.due.ensures ∙ c.in-Some-due.is) in
    record {
      turns = (tt, tt);
      kept = record {
        terms = c.chunks.invariant.kept.terms;
        timing = ap timing_of c.forget_first.ensures.rest ∙ c.chunks.invariant.kept.timing;
      };
      rest = ap (λ (l : LaneState _). record l { plan = c.forget_first.new.self }) c.chunks.invariant.rest;
      chunks = one_less _ _ c.args.now c.in-Some-due.serial _ staged _ c.chunks.invariant.chunks due c.forget_first.ensures.chunks;
    }
