use Rattle.std.specs.Prelude.{◌≡◌, []}
use Rattle.loss_rules.specs.Lines.{Adds}
use Rattle.loss_rules.proofs.Lines.{KeptBelow, BrokenBelow}
use Rattle.loss_rules.specs.Rules.{IsMatchedLabel}
use Rattle.loss_rules.proofs.plan.labels_are_matched.Given as goal

abbrev pub invariant-loop-label : goal.invariant-loop-label
invariant-loop-label g l = Adds (KeptBelow (λ number label. IsMatchedLabel l.net label) l.labels l.label-index)
    (BrokenBelow (λ number label line. (label.line ≡ line) × ¬ IsMatchedLabel l.net label) l.labels l.label-index) [] l.lines.items
