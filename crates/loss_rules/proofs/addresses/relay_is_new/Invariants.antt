use Rattle.std.proofs.Common.{ℕ, ◌<◌}
use Rattle.loss_rules.specs.Rules.{IsNewTo}
use Rattle.loss_rules.proofs.addresses.relay_is_new.Given as goal

abbrev pub invariant-loop-before : goal.invariant-loop-before
invariant-loop-before g l = (b : ℕ) → b < l.before → IsNewTo l.net l.lines l.place b
