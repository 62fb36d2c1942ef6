use Rattle.std.proofs.Common.{ℕ, ◌<◌, get_or}
use Rattle.label_plan.specs.Lines.{IsLabelLine}
use Rattle.label_plan.proofs.certificate.are_label_lines.Given as goal

abbrev pub invariant-loop-line : goal.invariant-loop-line
invariant-loop-line g l = (k : ℕ) (d : _) → k < l.line-index → IsLabelLine (get_or l.lines k d).now
