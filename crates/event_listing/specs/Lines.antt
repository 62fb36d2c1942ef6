-- What is printed of the events that bytes hold.
use Rattle.std.specs.Prelude.{ℕ, ℤ, ◌≡◌, List, [], ◌++◌, Option, Some, None}
use Rattle.std.specs.Borrow.{Bor}
use Rattle.std.specs.List.{AllByRecursion}
use Rattle.event_listing.specs.Events.{IsEventLine, IsTimeOf}
use Rattle.sink_series.specs.Events.{Event}
use Rattle.program_text.specs.Listings.{AreListed}
use Rattle.event_listing.specs.Choices.{Chosen, IsChosen}
use Rattle.event_listing.specs.Forms.{Form, spelled, spelled_run, BeginsNo, IsIn}

-- what is printed of an event: its line where it is chosen, and else nothing
pub data IsPrintedOf (chosen : Chosen) (event : Event) (text : List ℕ) : Type 0 where
  Line : (nanos : ℤ) → IsTimeOf event.entry nanos → IsChosen chosen event.tag nanos
      → IsEventLine event.tag event.entry text → IsPrintedOf chosen event text
  Nothing : (nanos : ℤ) → IsTimeOf event.entry nanos → (IsChosen chosen event.tag nanos → ⊥)
      → text ≡ [] → IsPrintedOf chosen event text

-- what is printed of events, one after another
abbrev pub ArePrinted : Chosen → List Event → List ℕ → Type 0
ArePrinted chosen events text = AreListed (IsPrintedOf chosen) events text

-- The text is what is printed of all events that the bytes hold, up to the first place where none
-- is whole, and behind them stand these bytes.
pub record PrintsAll (form : Form) (chosen : Chosen) (bytes text rest : List ℕ) : Type 0 where
  pub events : List Event
  pub each : AllByRecursion (IsIn form) events
  pub whole : bytes ≡ spelled_run form events ++ rest
  pub torn : BeginsNo form rest
  pub printed : ArePrinted chosen events text

-- The text is what is printed of the first events that the bytes hold, be it all or not.
pub record PrintsSome (form : Form) (chosen : Chosen) (bytes text : List ℕ) : Type 0 where
  pub events : List Event
  pub each : AllByRecursion (IsIn form) events
  pub rest : List ℕ
  pub whole : bytes ≡ spelled_run form events ++ rest
  pub printed : ArePrinted chosen events text

-- the bytes begin with an event, behind which stand these, and what is printed of it is added to
-- the lines
pub record PrintsFirst (form : Form) (chosen : Chosen)
    (bytes behind before lines : List ℕ) : Type 0 where
  pub event : Event
  pub is : IsIn form event
  pub first : bytes ≡ spelled form event ++ behind
  pub text : List ℕ
  pub printed : IsPrintedOf chosen event text
  pub lines_are : lines ≡ before ++ text

-- that is so, or no event is whole at the front of the bytes
abbrev pub TakesFirst : Form → Chosen → List ℕ → Option (Bor (List ℕ)) → List ℕ → List ℕ → Type 0
TakesFirst form chosen bytes None before lines = BeginsNo form bytes × (lines ≡ before)
TakesFirst form chosen bytes (Some behind) before lines =
    PrintsFirst form chosen bytes behind.now before lines
