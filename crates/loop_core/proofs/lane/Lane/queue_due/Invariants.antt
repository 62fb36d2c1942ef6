use Rattle.std.proofs.Common.{◌≡◌}
use Rattle.std.specs.Arc.{arc_value}
use Rattle.std.specs.Vec.Iter.{into_iter_items}
use Rattle.loop_core.specs.Lanes.{KeepsLane, LaneState}
use Rattle.loop_core.specs.Schedules.{AreLeft}
use Rattle.loop_core.proofs.lane.Lane.queue_due.Given as goal

abbrev pub invariant-chunks : goal.invariant-chunks
invariant-chunks g l =
    let now : LaneState _ = record {
      terms = arc_value l.self-inside.buffer;
      plan = l.self-inside.schedule;
      waiting = l.self-inside.pendings.items;
      receipts = into_iter_items l.self-inside.receipts;
      later = l.self-inside.is_later;
    } in record {
      turns : (goal.iterator-chunks g).can_next l.iterator' × (goal.iterator-chunks g).is_finite l.iterator';
      kept : KeepsLane l.fn.self now;
      rest : now ≡ record l.fn.self { plan = l.self-inside.schedule };
      chunks : AreLeft l.fn.self.plan.mode l.fn.self.plan.interval l.fn.now l.self-inside.schedule.chunks l.fn.self.plan.chunks;
    }
