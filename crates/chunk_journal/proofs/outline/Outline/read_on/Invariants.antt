use Rattle.std.proofs.Common.{◌≡◌, List, ℕ, length}
use Rattle.chunk_journal.specs.Feeding.{HasFound, IsAfter}
use Rattle.chunk_journal.proofs.outline.Outline.read_on.Given as goal

abbrev pub invariant-loop : goal.invariant-loop
invariant-loop g l = ((seen : List ℕ) → IsAfter l.initial.self seen → IsAfter l.self seen) × (HasFound l.self → ⊥) × (l.self.fed ≡ l.initial.self.fed)

abbrev pub decreases-loop : goal.decreases-loop
decreases-loop g l = length l.self.rest
