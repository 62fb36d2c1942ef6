use Rattle.std.proofs.Common.{◌≡◌, ℕ, length, ◌-◌, ◌+◌}
use Rattle.custody_store.specs.Contents.{flag_at}
use Rattle.custody_store.proofs.buffer.Buffer.answer.Given as goal

abbrev pub invariant-loop-self : goal.invariant-loop-self
invariant-loop-self g l = (l.self-inside ≡ record l.initial.self-inside { answered = l.self-inside.answered }) × ((s : ℕ) → flag_at l.self-inside.answered.items s ≡ flag_at l.initial.self-inside.answered.items s)

abbrev pub decreases-loop-self : goal.decreases-loop-self
decreases-loop-self g l = l.serial + 1 - length l.self-inside.answered.items
