-- What is printed of the files of sinks and journals.
use Rattle.std.specs.Prelude.{ℕ, ◌≡◌, ◌-◌, ◌⊎◌, Bool, true, false, List, ◌++◌, Option, IfSome, Result, MatchResult, length}
use Rattle.std.specs.Io.KnownBytes.{Appends}
use Rattle.program_text.specs.Listings.{AreListed}
use Rattle.program_text.specs.declared.status.Status.{Status}
use Rattle.program_text.specs.declared.status.Status.TheVariants.{Done, No, Usage}
use Rattle.chunk_journal.specs.Meaning.{EndsUnsealed, IsReplayed}
use Rattle.buffer_state.specs.State.{State}
use Rattle.folder_listing.specs.Files.{Named}
use Rattle.folder_listing.specs.declared.kind.Kind.{Kind}
use Rattle.folder_listing.specs.declared.kind.Kind.TheVariants.{Journal, Sink}
use Rattle.sink_series.specs.Events.{Event, Holds}
use Rattle.event_listing.specs.Choices.{Chosen}
use Rattle.event_listing.specs.Forms.{Items}
use Rattle.event_listing.specs.Lines.{PrintsAll, PrintsSome}
use Rattle.event_listing.specs.Live.{IsJournalBegun, IsJournalWhole}
use Rattle.event_listing.specs.Notes.{IsEndNote, IsJournalNote}
use Rattle.event_listing.specs.Reading.{IsEnd}
use Rattle.event_listing.specs.Shown.{Shown, IsShown, ShowsAll, ShowsPart}
use Rattle.event_listing.specs.declared.sink.End.TheVariants.{Ended}
use Rattle.event_listing.specs.declared.journal.JournalEnd.TheVariants.{Sealed, Unsealed}
use Rattle.event_listing.specs.declared.stop.Stop.{Stop}

-- The text is what is printed of all events of a file of this kind, whose bytes are these where
-- they are known.
abbrev pub IsWhole : Kind → Chosen → Option (List ℕ) → List ℕ → Type 0
IsWhole Sink chosen known text =
    IfSome known (λ bytes. (rest : List ℕ) × PrintsAll Items chosen bytes text rest)
IsWhole Journal chosen known text = IfSome known (λ bytes. IsJournalWhole chosen bytes text)

-- The text is what is printed of its first events, be it all or not.
abbrev pub IsBegun : Kind → Chosen → Option (List ℕ) → List ℕ → Type 0
IsBegun Sink chosen known text = IfSome known (λ bytes. PrintsSome Items chosen bytes text)
IsBegun Journal chosen known text = IfSome known (λ bytes. IsJournalBegun chosen bytes text)

-- A sink's file of these bytes is read to its end, and the line says so much of it.
pub record IsEndSaid (bytes name line : List ℕ) : Type 0 where
  pub events : List Event
  pub holds : Holds bytes events
  pub at : ℕ
  pub behind : ℕ
  pub end_is : IsEnd bytes holds.rest (Ended at behind)
  pub said : IsEndNote name (Ended at behind) line

-- the line says of a journal of these bytes where its records end, or that it isn't sealed
abbrev pub IsJournalSaid : List ℕ → List ℕ → List ℕ → Type 0
IsJournalSaid bytes name line =
    ((state : State) × (used : ℕ) × IsReplayed bytes state used
    × IsJournalNote name (Sealed used (length bytes - used)) line)
    ⊎ (EndsUnsealed bytes × IsJournalNote name Unsealed line)

-- a file of this kind and of these bytes is read to its end, and the line says so much of it
abbrev pub IsSaid : Kind → List ℕ → List ℕ → List ℕ → Type 0
IsSaid Sink bytes name line = IsEndSaid bytes name line
IsSaid Journal bytes name line = IsJournalSaid bytes name line

-- This is written of what is said of the file of this kind and name, which is read to its end: all
-- of it, or its beginning where the writer failed.
pub record IsNoted (kind : Kind) (known : Option (List ℕ)) (name written : List ℕ) : Type 0 where
  pub line : List ℕ
  pub unseen : List ℕ
  pub line_is : written ++ unseen ≡ line
  pub said : IfSome known (λ bytes. IsSaid kind bytes name line)

-- What is printed and said of the file of this kind and name: it is read to its end, or it isn't;
-- or memory ran out or the writer failed.
pub record PrintsNamed (kind : Kind) (known : Option (List ℕ)) (chosen : Chosen) (name : List ℕ)
    (out : Shown × Shown) (notes : Option (List ℕ) × Option (List ℕ))
    (result : Result Bool Stop) : Type 0 where
  pub text : List ℕ
  pub shown : MatchResult result (λ sound. ShowsAll out.0 out.1 text) (IsShown out.0 out.1 text)
  pub begun : IsBegun kind chosen known text
  pub ends : MatchResult result (λ sound. sound ≡ true → IsWhole kind chosen known text
      × ((written : List ℕ) × Appends notes.0 notes.1 written × IsNoted kind known name written))
      (λ stop. Unit {0})

-- the text is what is printed of the first of these files, one behind another
pub record AreBegun (named : List ℕ → Option (List ℕ)) (chosen : Chosen) (files : List Named)
    (text : List ℕ) : Type 0 where
  pub first : List Named
  pub others : List Named
  pub whole : files ≡ first ++ others
  pub begun : AreListed (λ file. IsBegun file.0 chosen (named file.1)) first text

-- the status where all files are read to their ends, and where not
abbrev pub status_of : Bool → Status
status_of true = Done
status_of false = No

-- All files are read to their ends: all of their events are printed, and it is said of each what
-- stands behind them.
pub record AreWhole (named : List ℕ → Option (List ℕ)) (chosen : Chosen) (files : List Named)
    (text : List ℕ) (notes : Option (List ℕ) × Option (List ℕ)) : Type 0 where
  pub whole : AreListed (λ file. IsWhole file.0 chosen (named file.1)) files text
  pub written : List ℕ
  pub appends : Appends notes.0 notes.1 written
  pub noted : AreListed (λ file. IsNoted file.0 (named file.1) file.1) files written

-- what the status says of a text that was printed
abbrev pub IsStatus : (List ℕ → Option (List ℕ)) → Chosen → List Named → List ℕ → Shown × Shown
    → Option (List ℕ) × Option (List ℕ) → Status → Type 0
IsStatus named chosen files text out notes Done = ShowsAll out.0 out.1 text
    × AreWhole named chosen files text notes
IsStatus named chosen files text out notes No = ShowsAll out.0 out.1 text
    × AreListed (λ file. IsBegun file.0 chosen (named file.1)) files text
IsStatus named chosen files text out notes Usage =
    ((unseen : List ℕ) × ShowsPart out.0 out.1 text unseen) × AreBegun named chosen files text

-- These files are printed: all events of all of them; or of each its first events; or memory ran
-- out or the writer failed before that.
pub record PrintsEvents (named : List ℕ → Option (List ℕ)) (chosen : Chosen) (files : List Named)
    (out : Shown × Shown) (notes : Option (List ℕ) × Option (List ℕ))
    (status : Status) : Type 0 where
  pub text : List ℕ
  pub status_is : IsStatus named chosen files text out notes status
