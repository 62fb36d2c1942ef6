use Rattle.std.specs.Prelude.{◌≡◌, []}
use Rattle.loss_rules.specs.Lines.{Adds}
use Rattle.loss_rules.proofs.Lines.{KeptBelow, BrokenBelow}
use Rattle.loss_rules.specs.Rules.{SourceIsNew}
use Rattle.loss_rules.proofs.addresses.source_lines.Given as goal

abbrev pub invariant-loop-number : goal.invariant-loop-number
invariant-loop-number g l = Adds (KeptBelow (λ number source. SourceIsNew l.net l.place number) l.source-items l.number)
    (BrokenBelow (λ number source line. (source.line ≡ line) × ¬ SourceIsNew l.net l.place number) l.source-items l.number) [] l.lines.items
