-- The tags under which something is held.
use Rattle.std.specs.Prelude.{◌≡◌, ℕ, List, Option, Contains, IsSomeAnd}
use Rattle.custody_store.specs.Buffers.{BufferState, Holds}
use Rattle.custody_store.specs.declared.chunk.Chunk.{Chunk as KeptChunk}

-- The list has what it had, and each tag of which this holds.
pub record Covers (P : List ℕ → Type 0) (old new : List (List ℕ)) : Type 0 where
  pub still : (tag : List ℕ) → Contains old tag → Contains new tag
  pub all : (tag : List ℕ) → P tag → Contains new tag

-- This holds of the tag and of one of these.
abbrev pub OfOne : {X : Type 0} → (X → List ℕ → Type 0) → List X → List ℕ → Type 0
OfOne {X} P xs tag = (x : X) × Contains xs x × P x tag

-- It is the tag of the chunk that is kept there, if there is one.
abbrev pub IsTagOfSlot : {A : Type 0} → Option (KeptChunk A) → List ℕ → Type 0
IsTagOfSlot slot tag = IsSomeAnd slot (λ chunk. chunk.tag ≡ tag)

-- The buffer or its sink holds something under the tag.
abbrev pub HoldsUnder : BufferState → List ℕ → Type 0
HoldsUnder state tag = (entry : List ℕ) × Holds state (record { tag = tag; entry = entry })
