-- Where events come in under an end of a tag that is looked for.
use Rattle.std.specs.Prelude.{◌≡◌, ◌≤◌, ℕ, List, ◌++◌, length, drop, Some, Contains}
use Rattle.relay_net.specs.Addresses.{Address}
use Rattle.relay_net.specs.Network.{Network, entrance, tag_at}
use Rattle.relay_net.specs.Routed.{ComesTo, SendsTo}
use Rattle.relay_net.specs.declared.arrival.Arrival.{Arrival}

-- A message with this tag, sent to this address, comes in there, and its events then bear what is
-- left of the tag that is looked for.
pub record IsArrival {A : Type 0} (net : Network A) (wanted : List ℕ) (address : Address)
    (tag : List ℕ) (arrival : Arrival) : Type 0 where
  pub enters : entrance net address ≡ Some arrival.at
  pub within : arrival.offset ≤ length wanted
  pub borne : drop arrival.offset wanted ≡ tag_at net address tag

-- A buffer of the relay forwards there under this tag.
pub record IsSentOn {A : Type 0} (net : Network A) (wanted : List ℕ) (place buffer : ℕ)
    (tag : List ℕ) (next : Arrival) : Type 0 where
  pub address : Address
  pub sends : SendsTo net place buffer address
  pub arrives : IsArrival net wanted address tag next

-- From the one arrival an event goes on to the other: through a buffer that it comes to.
pub record IsNext {A : Type 0} (net : Network A) (wanted : List ℕ)
    (here next : Arrival) : Type 0 where
  pub buffer : ℕ
  pub comes : ComesTo net here.at (drop here.offset wanted) buffer
  pub onward : IsSentOn net wanted here.at.relay buffer (drop here.offset wanted) next

-- The list grew by some of which this holds, and has all of which it holds.
pub record Grows (P : Arrival → Type 0) (old new : List Arrival) : Type 0 where
  pub more : List Arrival
  pub new_is : new ≡ old ++ more
  pub only : (arrival : Arrival) → Contains more arrival → P arrival
  pub all : (arrival : Arrival) → P arrival → Contains new arrival

-- This holds of the arrival through one of some things.
abbrev pub Through : {X : Type 0} → (X → Arrival → Type 0) → List X → Arrival → Type 0
Through {X} P xs arrival = (x : X) × Contains xs x × P x arrival
