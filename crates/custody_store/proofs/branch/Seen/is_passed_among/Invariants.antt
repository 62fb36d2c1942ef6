use Rattle.std.proofs.Common.{ℕ, ◌<◌, get_or, slice_get, IsSomeAnd}
use Rattle.custody_store.specs.Branches.{IsPassedOn}
use Rattle.custody_store.proofs.branch.Seen.is_passed_among.Given as goal

abbrev pub invariant-loop-number : goal.invariant-loop-number
invariant-loop-number g l = (k : ℕ) (d : ℕ) → k < l.number-index → IsSomeAnd (slice_get l.self.book.now.messages (get_or l.kept k d)) (IsPassedOn l.self.entry.now l.place l.buffer l.tag) → ⊥
