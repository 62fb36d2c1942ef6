use Rattle.std.specs.Vec.Iter.{into_iter_len}
use Rattle.loop_core.proofs.lanes.Lanes.end.Given as goal

abbrev pub invariant-loop-lane : goal.invariant-loop-lane
invariant-loop-lane g l = Unit {0}

abbrev pub decreases-loop-lane : goal.decreases-loop-lane
decreases-loop-lane g l = into_iter_len l.rest
