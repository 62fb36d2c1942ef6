use Rattle.std.specs.Vec.Iter.{into_iter_len}
use Rattle.simulate.proofs.link.end_links.Given as goal

abbrev pub invariant-loop-link : goal.invariant-loop-link
invariant-loop-link g l = Unit {0}

abbrev pub decreases-loop-link : goal.decreases-loop-link
decreases-loop-link g l = into_iter_len l.rest
