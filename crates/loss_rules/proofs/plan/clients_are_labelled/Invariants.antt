use Rattle.std.specs.Prelude.{◌≡◌, [], IsSomeAnd, slice_get}
use Rattle.loss_rules.specs.Lines.{Adds}
use Rattle.loss_rules.proofs.Lines.{KeptBelow, BrokenBelow}
use Rattle.loss_rules.specs.Rules.{IsLabelledClient}
use Rattle.loss_rules.proofs.plan.clients_are_labelled.Given as goal

abbrev pub invariant-loop-number : goal.invariant-loop-number
invariant-loop-number g l = Adds (KeptBelow (λ number line. IsSomeAnd (slice_get l.net.clients number) (IsLabelledClient l.net l.labels)) l.client_lines l.number)
    (BrokenBelow (λ number line at. (line ≡ at) × ¬ IsSomeAnd (slice_get l.net.clients number) (IsLabelledClient l.net l.labels)) l.client_lines l.number) [] l.lines.items
