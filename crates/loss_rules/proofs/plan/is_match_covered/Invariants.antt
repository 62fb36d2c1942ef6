use Rattle.std.proofs.Common.{ℕ, ◌<◌, get_or}
use Rattle.loss_rules.specs.Rules.{IsCovered}
use Rattle.loss_rules.proofs.plan.is_match_covered.Given as goal

abbrev pub invariant-loop-pattern : goal.invariant-loop-pattern
invariant-loop-pattern g l = (k : ℕ) (d : _) → k < l.pattern-index → IsCovered l.reaches l.at.place l.at.scope l.at.rule l.label (get_or l.patterns k d)
