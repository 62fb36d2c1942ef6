use Rattle.std.proofs.Common.{◌≡◌, ◌++◌, map}
use Rattle.std.specs.Vec.Iter.{into_iter_items, into_iter_len}
use Rattle.relay_run.proofs.running.start_all.Given as goal

abbrev pub invariant-loop-pool : goal.invariant-loop-pool
invariant-loop-pool g l = map (λ thread. thread.promise) l.threads.items ++ into_iter_items l.left ≡ map (λ thread. thread.promise) l.fn.threads.items ++ l.fn.pools.items

abbrev pub decreases-loop-pool : goal.decreases-loop-pool
decreases-loop-pool g l = into_iter_len l.left
