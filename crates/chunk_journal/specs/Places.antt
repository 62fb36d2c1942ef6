-- Where the entries of live chunks lie in a journal's bytes.
use Rattle.std.specs.Prelude.{ℕ, ◌≡◌, ◌≢◌, ◌+◌, ◌-◌, ◌<◌, ◌≤◌, List, [], ◌∷◌, ◌++◌, length, take, drop, Option, IsSomeAnd}
use Rattle.std.specs.Option.{option_map_or}
use Rattle.std.specs.List.{AllByRecursion, concat, flat_map}
use Rattle.std.specs.Map.{lookup}
use Rattle.std.specs.Ordering.{nat_cmp}
use Rattle.std.specs.BTreeMap.{is_at}
use Rattle.buffer_state.specs.State.{State, chunk_at, size}
use Rattle.chunk_journal.specs.declared.places.Extent.{Extent}
use Rattle.chunk_journal.specs.Records.{Record, Seal, Append, Queue, Purge}

-- the places of one chunk's entries, in their order, and how many more find room
pub record Spot : Type 0 where
  pub extents : List Extent
  pub room : ℕ

-- the places of chunks by their serials
abbrev pub Spots : Type 0
Spots = List (ℕ × Spot)

-- what is kept of the places of this chunk
abbrev pub spot_at : Spots → ℕ → Option Spot
spot_at spots serial = lookup (is_at (nat_cmp serial)) spots

-- the places of this chunk's entries; none where there is no such chunk
abbrev pub places_at : Spots → ℕ → List Extent
places_at spots serial =
    option_map_or (λ spot. spot.extents) (lookup (is_at (nat_cmp serial)) spots) []

-- one more place of this chunk finds room
abbrev pub HasRoom : Spots → ℕ → Type 0
HasRoom spots serial = IsSomeAnd (spot_at spots serial) (λ spot. 0 < spot.room)

-- no place changes
abbrev pub SamePlaces : Spots → Spots → Type 0
SamePlaces old new = (serial : ℕ) → places_at new serial ≡ places_at old serial

-- this chunk gets one place more, behind its others
pub record AddsPlace (serial : ℕ) (extent : Extent) (old new : Spots) : Type 0 where
  pub here : places_at new serial ≡ places_at old serial ++ extent ∷ []
  pub others : (other : ℕ) → other ≢ serial → places_at new other ≡ places_at old other

-- this chunk has no places any more
pub record DropsPlaces (serial : ℕ) (old new : Spots) : Type 0 where
  pub gone : places_at new serial ≡ []
  pub others : (other : ℕ) → other ≢ serial → places_at new other ≡ places_at old other

-- the bytes at a place
abbrev pub bytes_from : List ℕ → Extent → List ℕ
bytes_from seen extent = take extent.length (drop extent.at seen)

-- the bytes at places, joined
abbrev pub bytes_at : List ℕ → List Extent → List ℕ
bytes_at seen extents = flat_map (bytes_from seen) extents

-- a place is within the first so many bytes
abbrev pub IsWithin : ℕ → Extent → Type 0
IsWithin count extent = extent.at + extent.length ≤ count

-- these bytes lie at these places
abbrev pub LieAt : List ℕ → List Extent → List ℕ → Type 0
LieAt seen extents bytes = AllByRecursion (IsWithin (length seen)) extents
    × (bytes_at seen extents ≡ bytes)

-- the bytes of the entries of the live chunk of this serial; none where there is no such chunk
abbrev pub entries_at : State → ℕ → List ℕ
entries_at state serial = option_map_or (λ chunk. concat chunk.entries) (chunk_at state serial) []

-- the entries of each live chunk lie at its places
abbrev pub ArePlaced : List ℕ → Spots → State → Type 0
ArePlaced seen spots state = (serial : ℕ)
    → AllByRecursion (IsWithin (length seen)) (places_at spots serial)
    × (flat_map (bytes_from seen) (places_at spots serial) ≡ entries_at state serial)

-- the place of so many bytes that end there
abbrev pub extent_before : ℕ → ℕ → Extent
extent_before end count = record { at = end - count; length = count }

-- how many bytes of entries a record has
abbrev pub entries_size : Record → ℕ
entries_size (Seal next) = 0
entries_size (Append serial tag entries) = size entries
entries_size (Queue serial) = 0
entries_size (Purge serial) = 0

-- a record's entries end at this place of the bytes
abbrev pub EndsAt : List ℕ → Record → ℕ → Type 0
EndsAt seen (Seal next) end = Unit {0}
EndsAt seen (Append serial tag entries) end =
    (concat entries ≡ bytes_from seen (extent_before end (size entries))) × (end ≤ length seen)
EndsAt seen (Queue serial) end = Unit {0}
EndsAt seen (Purge serial) end = Unit {0}

-- what a record whose entries end there does to the places: an Append adds one, and a Purge drops
-- the chunk's
abbrev pub MovesPlaces : Record → ℕ → Spots → Spots → Type 0
MovesPlaces (Seal next) end old new = SamePlaces old new
MovesPlaces (Append serial tag entries) end old new =
    AddsPlace serial (extent_before end (size entries)) old new
MovesPlaces (Queue serial) end old new = SamePlaces old new
MovesPlaces (Purge serial) end old new = DropsPlaces serial old new
