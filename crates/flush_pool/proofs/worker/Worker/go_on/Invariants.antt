use Rattle.std.proofs.Common.{◌≡◌}
use Rattle.flush_pool.specs.Counts.{counts}
use Rattle.flush_pool.specs.Rounds.{IsFree}
use Rattle.flush_pool.proofs.worker.Worker.go_on.Given as goal

abbrev pub invariant-loop : goal.invariant-loop
invariant-loop g l = (l.self.post ≡ l.fn.self.post) × IsFree l.self.acts × (l.worked ≡ counts l.self.acts)
