use Rattle.std.proofs.Common.{ℕ, ◌<◌, get_or}
use Rattle.loss_rules.specs.Rules.{KeepsOrRelabels}
use Rattle.loss_rules.proofs.outputs.all_keep_or_relabel.Given as goal

abbrev pub invariant-loop-output : goal.invariant-loop-output
invariant-loop-output g l = (k : ℕ) (d : _) → k < l.output-index → KeepsOrRelabels (get_or l.outputs k d)
