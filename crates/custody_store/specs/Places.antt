-- What the relays of a network have, by their places, and what a change of one buffer is to that.
use Rattle.std.specs.Prelude.{◌≡◌, ◌<◌, ◌==◌, ◌&&◌, ℕ, cond, length, slice_get, IsSomeAnd}
use Rattle.custody_store.specs.Buffers.{Event, Holds}
use Rattle.custody_store.specs.Contents.{Contents, buffer_of}
use Rattle.custody_store.specs.PlaceLists.{contents_in, closed_in}
use Rattle.custody_store.specs.declared.places.Places.{Places}

-- the same of all relays
abbrev pub contents_at : {A : Type 0} → Places A → ℕ → ℕ → Contents
contents_at places p b = contents_in places.list.items p b

-- the same of all relays
abbrev pub closed_at : {A : Type 0} → Places A → ℕ → ℕ
closed_at places p = closed_in places.list.items p

-- There is room for this buffer.
abbrev pub IsThere : {A : Type 0} → Places A → ℕ → ℕ → Type 0
IsThere places p b = IsSomeAnd (slice_get places.list.items p)
    (λ place. b < length place.buffers.items)

-- Only this buffer changed, and has this now.
pub record IsChangedAt {A : Type 0} (before after : Places A) (place buffer : ℕ)
    (new : Contents) : Type 0 where
  pub contents : (p b : ℕ)
      → contents_at after p b ≡ cond ((p == place) && (b == buffer)) new (contents_at before p b)
  pub closed : (p : ℕ) → closed_at after p ≡ closed_at before p

-- Nothing changed, but for room.
pub record AreSame {A : Type 0} (before after : Places A) : Type 0 where
  pub contents : (p b : ℕ) → contents_at after p b ≡ contents_at before p b
  pub closed : (p : ℕ) → closed_at after p ≡ closed_at before p

-- Some buffer holds the event.
abbrev pub HoldAnywhere : {A : Type 0} → Places A → Event → Type 0
HoldAnywhere places event = (p : ℕ) × (b : ℕ) × Holds (buffer_of (contents_at places p b)) event
