use Rattle.std.proofs.Common.{ℕ, ◌<◌, get_or}
use Rattle.loss_rules.specs.Rules.{ReachesCoverLabel}
use Rattle.loss_rules.proofs.plan.all_covered.Given as goal

abbrev pub invariant-loop-pattern : goal.invariant-loop-pattern
invariant-loop-pattern g l = (k : ℕ) (d : _) → k < l.pattern-index → ReachesCoverLabel l.net l.reaches l.label.place l.label.scope (get_or l.pattern-items k d)
