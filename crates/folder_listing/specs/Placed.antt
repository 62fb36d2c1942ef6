-- What is read of a file from a place on.
use Rattle.std.specs.Prelude.{ℕ, ◌≡◌, ◌-◌, ◌<◌, ◌≤◌, List, [], ◌∷◌, ◌++◌, length, take, drop, Option, option_map}
use Rattle.chunk_journal.specs.Places.{bytes_at, bytes_from}
use Rattle.chunk_journal.specs.declared.places.Extent.{Extent}

-- The front of the piece, so many bytes, is what stands in a file of these bytes from there on; it
-- is nothing where nothing stands there, or the piece has no room.
pub record Gives (bytes : List ℕ) (at count : ℕ) (piece : List ℕ) : Type 0 where
  pub given : take count piece ≡ take count (drop at bytes)
  pub there : count ≤ length bytes - at
  pub end : count ≡ 0 → 0 < length piece → length bytes ≤ at

-- what stands in a file from there on, where its bytes are known
abbrev pub known_from : Option (List ℕ) → ℕ → Option (List ℕ)
known_from known at = option_map (λ bytes. drop at bytes) known

-- what stands in a file of these bytes at these places, but for so many bytes of the first
abbrev pub left_at : List ℕ → List Extent → ℕ → List ℕ
left_at bytes [] done = []
left_at bytes (place ∷ others) done = drop done (bytes_from bytes place) ++ bytes_at bytes others

-- the same, where its bytes are known
abbrev pub known_at : Option (List ℕ) → List Extent → ℕ → Option (List ℕ)
known_at known places done = option_map (λ bytes. left_at bytes places done) known

-- the same stands at the one places and at the others, whatever the file has
abbrev pub SameLeft : List Extent → ℕ → List Extent → ℕ → Type 0
SameLeft places done others also = (bytes : List ℕ)
    → left_at bytes places done ≡ left_at bytes others also
