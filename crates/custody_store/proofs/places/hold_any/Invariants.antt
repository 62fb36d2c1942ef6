use Rattle.std.proofs.Common.{◌≡◌, ◌<◌, ℕ, get_or}
use Rattle.custody_store.specs.Buffers.{Holds}
use Rattle.custody_store.specs.Contents.{contents_of, buffer_of}
use Rattle.custody_store.specs.declared.places.Place.{Place}
use Rattle.custody_store.proofs.places.hold_any.Given as goal

abbrev pub invariant-loop-there : goal.invariant-loop-there
invariant-loop-there g l = (k : ℕ) (x : Place g.row.A.Denot) → k < l.there-index → get_or l.list k x ≡ x → ((b : ℕ) × Holds (buffer_of (contents_of x.buffers.items b)) (record { tag = l.tag; entry = l.entry })) → ⊥
