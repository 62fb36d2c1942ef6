use Rattle.std.proofs.Common.{◌≡◌, ◌+◌, ◌-◌, ℕ, length}
use Rattle.custody_store.specs.Contents.{contents_of}
use Rattle.custody_store.proofs.places.widen.Given as goal

abbrev pub invariant-loop-alloc : goal.invariant-loop-alloc
invariant-loop-alloc g l = ((b : ℕ) → contents_of l.place.buffers.items b ≡ contents_of l.fn.place.buffers.items b) × (l.place.closed ≡ l.fn.place.closed)

abbrev pub decreases-loop-alloc : goal.decreases-loop-alloc
decreases-loop-alloc g l = l.buffer + 1 - length l.place.buffers.items
