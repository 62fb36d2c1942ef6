use Rattle.std.specs.Vec.Iter.{into_iter_len}
use Rattle.simulate.proofs.held.give_all_back.Given as goal

abbrev pub invariant-loop-held : goal.invariant-loop-held
invariant-loop-held g l = Unit {0}

abbrev pub decreases-loop-held : goal.decreases-loop-held
decreases-loop-held g l = into_iter_len l.rest
