-- How many bytes of messages that aren't whole the connections of a relay's loop hold.
use Rattle.std.specs.Prelude.{ℕ, ◌≡◌, ◌≤◌, ◌+◌, Bool, true, false, List, [], ◌∷◌, length, Option, None, Some, slice_index_or}
use Rattle.mio_relay.specs.Connections.{AllBelow, ConnectionState}

-- how many bytes they hold together at most, behind a turn
abbrev pub most_held : ℕ
most_held = 268435456

-- how many of these bytes count, of a connection that is broken, or isn't
abbrev pub counted : Bool → List ℕ → ℕ
counted true held = 0
counted false held = length held

-- how many a connection holds: one that is broken is to be closed, and counts no more
abbrev pub held_by : ConnectionState → ℕ
held_by connection = counted connection.is_broken connection.peer.session.held

-- how many what is at a key holds
abbrev pub held_at : Option ConnectionState → ℕ
held_at None = 0
held_at (Some connection) = held_by connection

-- how many all of these hold together
abbrev pub held_in : List (Option ConnectionState) → ℕ
held_in [] = 0
held_in (slot ∷ slots) = held_at slot + held_in slots

-- none of these holds more than what is at this key
abbrev pub HoldsMost : ℕ → List (Option ConnectionState) → Type 0
HoldsMost key slots = (none : Option ConnectionState)
    → AllBelow (λ slot. held_at slot ≤ held_at (slice_index_or slots key none)) (length slots) slots

-- What was at a key is broken off, and none held more; all else is as it was.
pub record ShedsMost (old new : List (Option ConnectionState)) : Type 0 where
  pub key : ℕ
  pub most : HoldsMost key old
  pub keys : length new ≡ length old
  pub others : (k : ℕ) (none : Option ConnectionState) → (k ≡ key → ⊥)
      → slice_index_or new k none ≡ slice_index_or old k none
