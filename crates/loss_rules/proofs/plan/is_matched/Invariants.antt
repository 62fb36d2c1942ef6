use Rattle.std.proofs.Common.{ℕ, ◌<◌, get_or}
use Rattle.loss_rules.specs.Rules.{FitsMatch}
use Rattle.loss_rules.proofs.plan.is_matched.Given as goal

abbrev pub invariant-loop-found : goal.invariant-loop-found
invariant-loop-found g l = (k : ℕ) (d : _) → k < l.found-index → FitsMatch l.pattern (get_or l.matches k d) → ⊥
