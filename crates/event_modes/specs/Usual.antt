-- Messages of one event as clients usually spell them, for the proofs of this crate.
use Rattle.std.specs.Prelude.{ℕ, ◌≡◌, ◌<◌, ◌≤◌, ◌⊎◌, List, [], ◌∷◌, ◌++◌, length, None}
use Rattle.msgpack_bytes.specs.Kinds.{IsStr}
use Rattle.event_modes.specs.Entry.{IsTime, entry_header}
use Rattle.event_modes.specs.Rows.{IsStored}
use Rattle.event_modes.specs.Message.{Parts, IsMessage}

-- a str with this content of at most 255 bytes, and what is behind it
pub record BeginsStr (bytes content behind : List ℕ) : Type 0 where
  pub front : List ℕ
  pub is_str : IsStr front content
  pub whole : bytes ≡ front ++ behind
  pub short : length content < 256

-- a first byte of a map: fixmap or map 16
abbrev pub BeginsMap : ℕ → Type 0
BeginsMap first = ((0x80 ≤ first) × (first ≤ 0x8f)) ⊎ (first ≡ 0xde)

-- a time, and behind it the first byte of a map
pub record BeginsEvent (bytes : List ℕ) : Type 0 where
  pub time : List ℕ
  pub first : ℕ
  pub rest : List ℕ
  pub is_time : IsTime time
  pub map : BeginsMap first
  pub whole : bytes ≡ time ++ first ∷ rest

-- what a message with this tag and no option says of one event, which is stored as these bytes
-- behind an entry's header
abbrev pub one_event : List ℕ → List ℕ → Parts
one_event tag event = record { tag = tag; entries = (entry_header ∷ event) ∷ []; ack = None }

-- the item is such a message
pub record IsOneEvent (item tag event : List ℕ) : Type 0 where
  pub message : IsMessage item (one_event tag event)
  pub stored : IsStored (entry_header ∷ event)
