use Rattle.std.proofs.Common.{◌+◌, ◌-◌, ◌*◌, length}
use Rattle.msgpack_bytes.proofs.Reaching.{Bounded}
use Rattle.msgpack_bytes.proofs.whole.items_end.Given as goal

abbrev pub invariant-loop-left : goal.invariant-loop-left
invariant-loop-left l = Bounded l.bytes l.i l.missing l.left l.levels l.limit

abbrev pub decreases-loop-left : goal.decreases-loop-left
decreases-loop-left l = 2 * (length l.bytes - l.i) + l.levels
