use Rattle.std.proofs.Common.{ℕ, ◌<◌, get_or}
use Rattle.loss_rules.specs.Labels.{FitsLabelWith}
use Rattle.std.specs.Option.{option_copied}
use Rattle.loss_rules.proofs.fitting.all_fit_label.Given as goal

abbrev pub invariant-loop-pattern : goal.invariant-loop-pattern
invariant-loop-pattern g l = (k : ℕ) (d : _) → k < l.pattern-index → FitsLabelWith l.labels l.scope.relay l.scope.scope (option_copied l.prefix) (get_or l.patterns k d)
