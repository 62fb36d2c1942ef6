-- A stream that comes in pieces.
use Rattle.std.specs.Prelude.{ℕ, ◌≡◌, ◌<◌, ◌⊎◌, List, [], ◌++◌, length, Option, Some, None}
use Rattle.msgpack_bytes.specs.Item.{IsOpen}
use Rattle.event_modes.specs.declared.fault.ModeFault.{ModeFault}
use Rattle.event_modes.specs.declared.feed.Next.{Next}
use Rattle.event_modes.specs.declared.feed.Next.TheVariants as next
use Rattle.event_modes.specs.Stream.{Arrival, Sent, Heartbeat, IsArrival}
use Rattle.event_modes.specs.Faults.{StreamFault}
use Rattle.event_modes.specs.Reading.{meaning}

-- the bytes that are held unread, and the fault that was met in them
pub record Feeding : Type 0 where
  pub held : List ℕ
  pub fault : Option ModeFault

-- an arrival was taken off the front
pub record TakesOff (old : Feeding) (arrival : Arrival) (new : Feeding) : Type 0 where
  pub was : old.fault ≡ None
  pub front : List ℕ
  pub is : IsArrival front arrival
  pub some : length new.held < length old.held
  pub whole : old.held ≡ front ++ new.held
  pub none : new.fault ≡ None

-- what asking for the next does: something is taken off, or more bytes are wanted, or a fault
-- stands for good
abbrev pub Takes : {A : Type 0} → Feeding → Next A → Feeding → Type 0
Takes old (next.Message m) new = TakesOff old (Sent (meaning m)) new
Takes old next.Heartbeat new = TakesOff old Heartbeat new
Takes old next.Need new = (new ≡ old) × (old.fault ≡ None) × ((old.held ≡ []) ⊎ IsOpen old.held)
Takes old (next.Bad fault) new = (new.held ≡ old.held) × (new.fault ≡ Some fault)
    × StreamFault old.held fault

-- the fault that is remembered is the one of the bytes held
abbrev pub IsRemembered : List ℕ → Option ModeFault → Type 0
IsRemembered held None = Unit {0}
IsRemembered held (Some fault) = StreamFault held fault
