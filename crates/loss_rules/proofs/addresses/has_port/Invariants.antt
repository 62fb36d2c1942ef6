use Rattle.std.proofs.Common.{ℕ, ◌<◌, get_or}
use Rattle.std.specs.Prelude.{◌≡◌}
use Rattle.loss_rules.proofs.addresses.has_port.Given as goal

abbrev pub invariant-loop-source : goal.invariant-loop-source
invariant-loop-source g l = (k : ℕ) (d : _) → k < l.source-index → (get_or l.sources k d).port ≡ l.port → ⊥
