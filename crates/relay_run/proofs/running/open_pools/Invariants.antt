use Rattle.std.proofs.Common.{◌≡◌, ◌++◌, map}
use Rattle.std.specs.Prelude.{All}
use Rattle.std.specs.Vec.Iter.{into_iter_items, into_iter_len}
use Rattle.relay_run.specs.Loops.{IsCarried, placed_as, placed_in}
use Rattle.relay_run.proofs.running.open_pools.Given as goal

abbrev pub invariant-loop-job : goal.invariant-loop-job
invariant-loop-job g l = record {
  jobs : map placed_in l.pools.items ++ map placed_as (into_iter_items l.left) ≡ map placed_as l.fn.jobs.items;
  pools : All (IsCarried l.home.path.now) l.pools.items;
}

abbrev pub decreases-loop-job : goal.decreases-loop-job
decreases-loop-job g l = into_iter_len l.left
