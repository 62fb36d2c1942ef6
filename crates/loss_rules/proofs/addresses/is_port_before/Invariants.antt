use Rattle.std.proofs.Common.{◌≡◌}
use Rattle.loss_rules.proofs.Lines.{KeptBelow}
use Rattle.loss_rules.proofs.addresses.is_port_before.Given as goal

abbrev pub invariant-loop-before : goal.invariant-loop-before
invariant-loop-before g l = KeptBelow (λ p source. ¬ (source.port ≡ l.port)) l.sources l.before
