-- What is printed of a configuration that runs in Fluentd.
use Rattle.std.specs.Prelude.{◌≡◌, ◌⊎◌, ⊤, true, false, ℕ, List, Option}
use Rattle.conf_text.specs.Grammar.{IsConfiguration}
use Rattle.conf_text.specs.Trees.{Tree}
use Rattle.program_text.specs.Output.{IsPrinted}
use Rattle.program_text.specs.Texts.{IsTextOf}
use Rattle.program_text.specs.declared.status.Status.{Status}
use Rattle.program_text.specs.declared.status.Status.TheVariants.{Done, No}
use Rattle.program_text.specs.Stops.{IsTextStop, PrintsConfStop}
use Rattle.program_text.specs.declared.relay_text.ConfStop.{ConfStop}
use Rattle.program_text.specs.declared.relay_text.ConfStop.TheVariants as stop
use Rattle.conf_listing.specs.declared.draft.Draft.{Draft}
use Rattle.conf_listing.specs.Adapting.{behind_mark, DescribesRelay, IsDraft, IsStopOfLines}

-- The text is a configuration, and this is its draft.
pub record IsDraftOf {A : Type 0} (text : List ℕ) (names : List (List ℕ))
    (draft : Draft A) : Type 0 where
  pub elements : List Tree
  pub configured : IsConfiguration (behind_mark text) elements
  pub drafted : IsDraft elements names draft

-- All is accepted: the lines are those of the draft, and a relay reads them.
pub record IsAdapted (A : Type 0) (text : List ℕ) (names : List (List ℕ))
    (lines : List ℕ) : Type 0 where
  pub draft : Draft A
  pub draft_is : IsDraftOf text names draft
  pub accepted : draft.is_accepted ≡ true
  pub lines_are : lines ≡ draft.lines.items
  pub describes : DescribesRelay A lines

-- Not all is accepted: the lines say what isn't.
pub record IsUndecided (A : Type 0) (text : List ℕ) (names : List (List ℕ))
    (lines : List ℕ) : Type 0 where
  pub draft : Draft A
  pub draft_is : IsDraftOf text names draft
  pub accepted : draft.is_accepted ≡ false
  pub lines_are : lines ≡ draft.lines.items

-- what is said of a text: the status is 0 where a relay reads the lines, and 1 where something
-- isn't accepted
abbrev pub IsAnswerTo : (A : Type 0) → List ℕ → List (List ℕ) → List ℕ → Status → Type 0
IsAnswerTo A text names lines status = (IsAdapted A text names lines × (status ≡ Done))
    ⊎ (IsUndecided A text names lines × (status ≡ No))

-- All is accepted, and yet no relay reads the lines of the draft.
pub record IsUnreadDraft (A : Type 0) (text : List ℕ) (names : List (List ℕ))
    (stopped : ConfStop) : Type 0 where
  pub draft : Draft A
  pub draft_is : IsDraftOf text names draft
  pub accepted : draft.is_accepted ≡ true
  pub unread : IsStopOfLines draft.lines.items stopped

-- why nothing is said of a text: it has this fault, or the lines of its draft have one of this
-- kind; or memory ran out
abbrev pub IsStopTo : (A : Type 0) → List ℕ → List (List ℕ) → ConfStop → Type 0
IsStopTo A text names (stop.Unread fault) = ⊤
IsStopTo A text names stopped = IsTextStop (behind_mark text) stopped
    ⊎ IsUnreadDraft A text names stopped

-- what is said of the text that is read
abbrev pub IsAnswer : (A : Type 0) → Option (List ℕ) → List (List ℕ) → List ℕ → Status → Type 0
IsAnswer A conf names lines status = (text : List ℕ) × IsTextOf conf text
    × IsAnswerTo A text names lines status

-- why nothing is said of it
abbrev pub IsStop : (A : Type 0) → Option (List ℕ) → List (List ℕ) → ConfStop → Type 0
IsStop A conf names (stop.Unread fault) = ⊤
IsStop A conf names stopped = (text : List ℕ) × IsTextOf conf text × IsStopTo A text names stopped

-- An answer is printed.
pub record PrintsAnswer (A : Type 0) (conf : Option (List ℕ)) (names : List (List ℕ))
    (old new : Option (List ℕ)) (status : Status) : Type 0 where
  pub lines : List ℕ
  pub meant : Status
  pub answer : IsAnswer A conf names lines meant
  pub printed : IsPrinted old new lines meant status

-- The line of a fault is printed.
pub record PrintsFault (A : Type 0) (conf : Option (List ℕ)) (names : List (List ℕ))
    (old new : Option (List ℕ)) (status : Status) : Type 0 where
  pub stopped : ConfStop
  pub stop_is : IsStop A conf names stopped
  pub prints : PrintsConfStop stopped old new status

-- all that `adapt` does to a writer, and its status
abbrev pub PrintsAdapted : (A : Type 0) → Option (List ℕ) → List (List ℕ) → Option (List ℕ)
    → Option (List ℕ) → Status → Type 0
PrintsAdapted A conf names old new status = PrintsAnswer A conf names old new status
    ⊎ PrintsFault A conf names old new status
