use Rattle.std.proofs.Common.{ℕ, ◌<◌, get_or}
use Rattle.std.specs.Prelude.{All}
use Rattle.std.specs.Option.{option_copied}
use Rattle.loss_rules.specs.Labels.{FitsLabelWith}
use Rattle.loss_rules.proofs.fitting.reaches_fit_label.Given as goal

abbrev pub invariant-loop-patterns : goal.invariant-loop-patterns
invariant-loop-patterns g l = (k : ℕ) (d : _) → k < l.patterns-index → All (FitsLabelWith l.labels l.scope.relay l.scope.scope (option_copied l.prefix)) (get_or l.patterns-items k d).now
