use Rattle.std.proofs.Common.{◌≡◌, ◌<◌, ℕ, get_or}
use Rattle.custody_store.specs.Buffers.{Holds}
use Rattle.custody_store.specs.Contents.{Contents, buffer_of}
use Rattle.custody_store.proofs.places.holds_any.Given as goal

abbrev pub invariant-loop-buffer : goal.invariant-loop-buffer
invariant-loop-buffer g l = (k : ℕ) (x : Contents) → k < l.buffer-index → get_or l.buffers k x ≡ x → Holds (buffer_of x) (record { tag = l.tag; entry = l.entry }) → ⊥
