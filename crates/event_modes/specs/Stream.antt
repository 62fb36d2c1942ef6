-- What comes on a connection (Forward Protocol Specification v1, "Message Modes"): messages and
-- heartbeats one after another.
use Rattle.std.specs.Prelude.{ℕ, ◌≡◌, ◌⊎◌, List, [], ◌∷◌, ◌++◌}
use Rattle.msgpack_bytes.specs.Item.{IsItemWithin, IsOpen}
use Rattle.msgpack_bytes.specs.Kinds.{IsNil}
use Rattle.event_modes.specs.Message.{Parts, IsMessage}

-- what an item is to the one who listens: a message, or a nil that only keeps the connection alive
pub data Arrival : Type 0 where
  Sent : (parts : Parts) → Arrival
  Heartbeat : Arrival

-- the item is this arrival
abbrev pub IsArrival : List ℕ → Arrival → Type 0
IsArrival bytes (Sent parts) = IsMessage bytes parts
IsArrival bytes Heartbeat = IsNil bytes

-- the bytes begin with an item that is neither
pub record BeginsOtherwise (bytes : List ℕ) : Type 0 where
  pub item : List ℕ
  pub more : List ℕ
  pub is_item : IsItemWithin item
  pub neither : (arrival : Arrival) → IsArrival item arrival → ⊥
  pub whole : bytes ≡ item ++ more

-- no item begins with the bytes, and they begin with none
pub record IsLost (bytes : List ℕ) : Type 0 where
  pub begins_none : (more : List ℕ) → IsItemWithin (bytes ++ more) → ⊥
  pub has_none : (front back : List ℕ) → bytes ≡ front ++ back → IsItemWithin front → ⊥

-- where the messages end: with nothing, with the beginning of an item, or with a fault
abbrev pub IsRest : List ℕ → Type 0
IsRest rest = (rest ≡ []) ⊎ (IsOpen rest ⊎ (BeginsOtherwise rest ⊎ IsLost rest))

-- the bytes are these arrivals, one after another, and then the rest
abbrev pub Splits : List ℕ → List Arrival → List ℕ → Type 0
Splits bytes [] rest = bytes ≡ rest
Splits bytes (arrival ∷ arrivals) rest =
    (front : List ℕ) × (back : List ℕ) × IsArrival front arrival × Splits back arrivals rest
    × (bytes ≡ front ++ back)

-- the same, up to where the messages end
pub record IsStream (bytes : List ℕ) (arrivals : List Arrival) (rest : List ℕ) : Type 0 where
  pub splits : Splits bytes arrivals rest
  pub ends : IsRest rest
