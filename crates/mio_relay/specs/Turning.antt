-- Which connections a relay's loop has, before and behind what a turn does.
use Rattle.std.specs.Prelude.{ℕ, ◌≡◌, ◌⊎◌, ◌+◌, true, List, length, Option, None, Some, IsSomeAnd, slice_index_or}
use Rattle.mio_relay.specs.Connections.{ConnectionState, IsSameConnection, MayClose}

-- what is at a key, if something is
abbrev pub at_key : List (Option ConnectionState) → ℕ → Option ConnectionState
at_key slots key = slice_index_or slots key None

-- this holds of what was at each key and what is there now
abbrev pub EachKey : (Option ConnectionState → Option ConnectionState → Type 0)
    → (old new : List (Option ConnectionState)) → Type 0
EachKey R old new = (key : ℕ) → R (at_key old key) (at_key new key)

-- what was at a key goes on there, if something was, and nothing came there
abbrev pub StandsOn : (old new : Option ConnectionState) → Type 0
StandsOn None None = Unit {0}
StandsOn None (Some new) = ⊥
StandsOn (Some old) None = ⊥
StandsOn (Some old) (Some new) = IsSameConnection old new

-- and so it is at each key
abbrev pub StandOn : (old new : List (Option ConnectionState)) → Type 0
StandOn old new = EachKey StandsOn old new

-- At a key where nothing was is this connection now.
pub record HasGot (connection : ConnectionState) (old new : Option ConnectionState) : Type 0 where
  pub none : old ≡ None
  pub is : new ≡ Some connection

-- a key has got this connection, or is as it was
abbrev pub MayGet : ConnectionState → (old new : Option ConnectionState) → Type 0
MayGet connection old new = (new ≡ old) ⊎ HasGot connection old new

-- what was at a key goes on there; or nothing was, and a connection came there at this time
abbrev pub ComesOn : (time : ℕ) → (old new : Option ConnectionState) → Type 0
ComesOn time old new = StandsOn old new
    ⊎ ((connection : ConnectionState) × (connection.came ≡ time) × HasGot connection old new)

-- What was at a key might be closed at this time as it was, and is there no more.
pub record IsClosed (time : ℕ) (old new : Option ConnectionState) : Type 0 where
  pub may : IsSomeAnd old (MayClose time)
  pub gone : new ≡ None

-- a key is as it was, or what was there might be closed at this time, and is there no more
abbrev pub MayLose : (time : ℕ) → (old new : Option ConnectionState) → Type 0
MayLose time old new = (new ≡ old) ⊎ IsClosed time old new

-- what was at a key goes on there, or it might be closed at this time, and is there no more
abbrev pub LeavesOn : (time : ℕ) → (old new : Option ConnectionState) → Type 0
LeavesOn time old new = StandsOn old new ⊎ IsClosed time old new

-- A turn at this time: each connection went on, and others came in at this time, and so these stood
-- there; then they went on but for those that might be closed at this time as they stood.
pub record AreTurned (time : ℕ) (old new : List (Option ConnectionState)) : Type 0 where
  pub stood : List (Option ConnectionState)
  pub came : EachKey (ComesOn time) old stood
  pub left : EachKey (LeavesOn time) stood new

-- how many messages were demanded of what is at a key, as far as it was read
abbrev pub asked_at : Option ConnectionState → ℕ
asked_at None = 0
asked_at (Some connection) = length connection.peer.session.asked

-- Between so many numbers and so many, each message that was demanded of what is at a key got a
-- number of its own, unless the connection is to be closed.
abbrev pub AreNumbered : (before after : ℕ) → (old new : Option ConnectionState) → Type 0
AreNumbered before after old new = (after + asked_at old ≡ before + asked_at new)
    ⊎ IsSomeAnd new (λ connection. connection.is_broken ≡ true)
