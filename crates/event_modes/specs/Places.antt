-- What stands where in a message, as slices of it.
use Rattle.std.specs.Prelude.{ℕ, ◌≡◌, ◌+◌, ◌<◌, List, [], ◌∷◌, length, option_map, Result, Ok, Err}
use Rattle.msgpack_bytes.specs.Item.{longest, IsItemWithin}
use Rattle.msgpack_bytes.specs.Kinds.{IsText}
use Rattle.event_modes.specs.declared.fault.ModeFault.{ModeFault}
use Rattle.event_modes.specs.declared.fault.FeedError.{FeedError}
use Rattle.event_modes.specs.declared.fault.FeedError.TheVariants.{Memory, Fault}
use Rattle.event_modes.specs.declared.places.Elements.{Elements}
use Rattle.event_modes.specs.declared.places.Elements.TheVariants.{Two, Three, Four}
use Rattle.event_modes.specs.declared.places.Carried.{Carried}
use Rattle.event_modes.specs.declared.places.Carried.TheVariants as carried
use Rattle.event_modes.specs.declared.places.Places.{Places}
use Rattle.msgpack_bytes.specs.Containers.{IsPart, IsArray}
use Rattle.event_modes.specs.Message.{Carrier, Single, Forward, Packed, Frame}

-- the elements, in order
abbrev pub elements_list : Elements → List (List ℕ)
elements_list (Two first second) = first.now ∷ second.now ∷ []
elements_list (Three first second third) = first.now ∷ second.now ∷ third.now ∷ []
elements_list (Four first second third fourth) =
    first.now ∷ second.now ∷ third.now ∷ fourth.now ∷ []

-- what carries the events, without where it lies
abbrev pub carrier_of : Carried → Carrier
carrier_of (carried.Single time fields) = Single time.now fields.now
carrier_of (carried.Forward array) = Forward array.now
carrier_of (carried.Packed content) = Packed content.now

-- the places of a message without where they lie in memory
abbrev pub frame_of : Places → Frame
frame_of places = record {
  tag = places.tag.now;
  carrier = carrier_of places.carried;
  option = option_map (λ x. x.now) places.option;
}

-- a second element that carries entries, and as what
abbrev pub IsBulk : List ℕ → Carrier → Type 0
IsBulk second (Single time fields) = ⊥
IsBulk second (Forward array) = (array ≡ second) × ((items : List (List ℕ)) × IsArray items second)
IsBulk second (Packed content) = IsText second content

-- a second element that carries none
abbrev pub IsNoBulk : List ℕ → Type 0
IsNoBulk second = ((items : List (List ℕ)) → IsArray items second → ⊥)
    × ((content : List ℕ) → IsText second content → ⊥)

-- a carrier that lies in an item
abbrev pub CanCarry : Carrier → Type 0
CanCarry (Single time fields) = IsPart time × IsPart fields
    × (length time + length fields < longest)
CanCarry (Forward array) = IsItemWithin array × ((items : List (List ℕ)) × IsArray items array)
CanCarry (Packed content) = Unit {0}

-- what was found, or the fault; where memory ran out nothing is said
abbrev pub Finds : {X : Type 0} → (X → Type 0) → (ModeFault → Type 0) → Result X FeedError → Type 0
Finds Found Faulty (Ok x) = Found x
Finds Found Faulty (Err Memory) = Unit {0}
Finds Found Faulty (Err (Fault fault)) = Faulty fault
