use Rattle.std.specs.Vec.Iter.{into_iter_len}
use Rattle.buffer_tests.proofs.shelves.spend_all.Given as goal

abbrev pub invariant-loop-receipt : goal.invariant-loop-receipt
invariant-loop-receipt g l = Unit {0}

abbrev pub decreases-loop-receipt : goal.decreases-loop-receipt
decreases-loop-receipt g l = into_iter_len l.rest
