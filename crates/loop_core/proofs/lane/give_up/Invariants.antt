use Rattle.std.specs.Vec.Iter.{into_iter_len}
use Rattle.loop_core.proofs.lane.give_up.Given as goal

abbrev pub invariant-loop-pending : goal.invariant-loop-pending
invariant-loop-pending g l = Unit {0}

abbrev pub decreases-loop-pending : goal.decreases-loop-pending
decreases-loop-pending g l = into_iter_len l.rest
