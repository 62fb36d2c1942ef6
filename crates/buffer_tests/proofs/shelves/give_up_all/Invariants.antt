use Rattle.std.specs.Vec.Iter.{into_iter_len}
use Rattle.buffer_tests.proofs.shelves.give_up_all.Given as goal

abbrev pub invariant-loop-pending : goal.invariant-loop-pending
invariant-loop-pending g l = Unit {0}

abbrev pub decreases-loop-pending : goal.decreases-loop-pending
decreases-loop-pending g l = into_iter_len l.rest
