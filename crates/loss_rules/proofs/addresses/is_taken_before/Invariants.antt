use Rattle.loss_rules.specs.Addresses.{HasAddress}
use Rattle.loss_rules.proofs.Lines.{KeptBelow}
use Rattle.loss_rules.proofs.addresses.is_taken_before.Given as goal

abbrev pub invariant-loop-before : goal.invariant-loop-before
invariant-loop-before g l = KeptBelow (λ p node. ¬ HasAddress l.host l.port node) l.relays l.before
