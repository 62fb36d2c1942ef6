use Rattle.std.proofs.Common.{◌≡◌, ◌++◌, map}
use Rattle.std.specs.Vec.Iter.{into_iter_items, into_iter_len}
use Rattle.relay_run.proofs.running.join_all.Given as goal

abbrev pub invariant-loop-thread : goal.invariant-loop-thread
invariant-loop-thread g l = map (λ end. end.pool) l.ends.items ++ map (λ thread. thread.promise) (into_iter_items l.left) ≡ map (λ thread. thread.promise) l.fn.threads.items

abbrev pub decreases-loop-thread : goal.decreases-loop-thread
decreases-loop-thread g l = into_iter_len l.left
