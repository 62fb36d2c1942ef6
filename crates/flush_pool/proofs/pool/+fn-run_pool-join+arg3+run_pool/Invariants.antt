use Prim.Native.Nat.{◌+◌, ◌*◌}
use Rattle.flush_pool.proofs.pool.+fn-run_pool-join+arg3+run_pool.Given as goal

abbrev pub decreases-join+arg3 : goal.decreases-join+arg3
decreases-join+arg3 g l = 2 * l.rest + 1

abbrev pub decreases-run_pool : goal.decreases-run_pool
decreases-run_pool g l = 2 * l.threads
