use Rattle.std.proofs.Common.{◌≡◌, ℕ, ◌<◌, get_or}
use Rattle.relay_net.specs.declared.arrival.Arrival.{Arrival}
use Rattle.relay_net.proofs.arrival.is_among.Given as goal

abbrev pub invariant-loop-one : goal.invariant-loop-one
invariant-loop-one l = (k : ℕ) (d : Arrival) → k < l.one-index → get_or l.found k d ≡ l.arrival → ⊥
