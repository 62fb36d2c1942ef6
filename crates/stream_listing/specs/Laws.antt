-- What holds of listings.
use Rattle.std.specs.Prelude.{◌≡◌, ◌≢◌, ℕ, List, ◌++◌}
use Rattle.event_modes.specs.declared.fault.ModeFault.{ModeFault}
use Rattle.event_modes.specs.Faults.{StreamFault}
use Rattle.event_modes.specs.Stream.{Arrival, IsArrival}
use Rattle.program_text.specs.declared.status.Status.{Status}
use Rattle.stream_listing.specs.Listing.{Ends, IsListingBy, IsPending}

-- a hex text has one listing, and one status
abbrev pub HasOneListing : Type 0
HasOneListing = (text : List ℕ) (status other : Status) (written lines : List ℕ)
    → IsListingBy Ends text status written → IsListingBy Ends text other lines
    → (status ≡ other) × (written ≡ lines)

-- Bytes with this fault begin with no message and no heartbeat, and are neither none nor the
-- beginning of an item; they have no other fault, and the same one whatever follows.
pub record IsFaultForGood (bytes : List ℕ) (fault : ModeFault) : Type 0 where
  pub begins_none : (front back : List ℕ) (arrival : Arrival) → IsArrival front arrival
      → bytes ≢ front ++ back
  pub not_pending : IsPending bytes → ⊥
  pub one : (other : ModeFault) → StreamFault bytes other → fault ≡ other
  pub stays : (more : List ℕ) → StreamFault (bytes ++ more) fault

-- so it is with each fault of a stream
abbrev pub StandsForGood : Type 0
StandsForGood = (bytes : List ℕ) (fault : ModeFault) → StreamFault bytes fault
    → IsFaultForGood bytes fault

-- Bytes that begin with no message and no heartbeat, and are neither none nor the beginning of an
-- item, have a fault: it can't be that they have none.
abbrev pub EndsWithFault : Type 0
EndsWithFault = (bytes : List ℕ) → ¬ (IsPending bytes)
    → ((front back : List ℕ) (arrival : Arrival) → IsArrival front arrival → bytes ≢ front ++ back)
    → ¬ ((fault : ModeFault) → ¬ (StreamFault bytes fault))
