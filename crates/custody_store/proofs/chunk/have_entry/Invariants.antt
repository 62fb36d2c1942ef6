use Rattle.std.proofs.Common.{◌≡◌, ◌<◌, ℕ, Option, get_or, IsSomeAnd}
use Rattle.custody_store.specs.Marks.{slot_from}
use Rattle.custody_store.specs.Buffers.{IsInChunk}
use Rattle.custody_store.specs.declared.chunk.Chunk.{Chunk}
use Rattle.custody_store.proofs.chunk.have_entry.Given as goal

abbrev pub invariant-loop-slot : goal.invariant-loop-slot
invariant-loop-slot g l = (k : ℕ) (x : Option (Chunk g.row.A.Denot)) → k < l.slot-index → get_or l.chunks k x ≡ x → (now : ℕ) → IsSomeAnd (slot_from now x) (λ chunk. IsInChunk chunk (record { tag = l.tag; entry = l.entry })) → ⊥
