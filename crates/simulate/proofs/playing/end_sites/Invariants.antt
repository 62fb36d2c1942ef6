use Rattle.std.specs.Vec.Iter.{into_iter_len}
use Rattle.simulate.proofs.playing.end_sites.Given as goal

abbrev pub invariant-loop-site : goal.invariant-loop-site
invariant-loop-site g l = Unit {0}

abbrev pub decreases-loop-site : goal.decreases-loop-site
decreases-loop-site g l = into_iter_len l.rest
