-- What a sink keeps that stays open over several files.
use Rattle.std.specs.Prelude.{ℕ, ◌≡◌, ◌≤◌, List, ◌∷◌, IfSome, Option, Some, None, Result, Ok, Err}
use Rattle.std.specs.List.{AllByRecursion}
use Rattle.disk_files.specs.Disk.{SameDisk}
use Rattle.disk_files.specs.Moments.{History, now}
use Rattle.sink_series.specs.Events.{Event}
use Rattle.sink_series.specs.Views.{SeriesView, StoredView}
use Rattle.sink_series.specs.Keeping.{IsSafe, StaysSafe, AnsweredStay, Keeps}
use Rattle.sink_series.specs.declared.fault.SeriesFault.{SeriesFault}
use Rattle.sink_series.specs.RotationViews.{FileView, RotationView, Kept, files_of, answers_of}
use Rattle.sink_series.specs.declared.rotation.Files.{Files}
use Rattle.sink_series.specs.declared.rotation.Files.TheVariants.{Open, Shut}

-- the file that is open
abbrev pub open_of : {D A : Type 0} → Files D A → Option (SeriesView D)
open_of (Open series) = Some series
open_of (Shut dir) = None

-- the folder
abbrev pub dir_of : {D A : Type 0} → Files D A → D
dir_of (Open series) = series.dir
dir_of (Shut dir) = dir

-- Time goes on: the past stays as it was, and what was safe is safe since.
pub record Lasts (old new : History) : Type 0 where
  pub later : old.moment ≤ new.moment
  pub past : (t : ℕ) → t ≤ old.moment → SameDisk (new.disk_at t) (old.disk_at t)
  pub older : (name : List ℕ) (events : List Event) → IsSafe (now old) name events
      → StaysSafe old new name events

-- What a sink knows whose folder was honest when it was opened, whatever was called since, also
-- after failures and in all its files since: its folder is honest, each answer's entries are
-- certainly in its file at each moment from the answer on, and what was safe at the opening has
-- been safe since. The open file keeps what a sink keeps.
pub record KeepsAll {D : Type 0} (is_honest : D → Type 0) (history : D → History)
    (sink : RotationView D) : Type 0 where
  pub dir : is_honest sink.dir
  pub answers : AllByRecursion
      (λ (file : FileView). AnsweredStay (history sink.dir) file.name file.stored) (files_of sink)
  pub lasts : Lasts (history sink.opening) (history sink.dir)
  pub newest : IfSome sink.open_one (λ (series : SeriesView D). is_honest series.opening
      × Keeps is_honest history series)

-- a sink that stays open: its files have its path, and it keeps what it answered
pub record IsRotating {D : Type 0} (is_honest : D → Type 0) (history : D → History)
    (sink : RotationView D) : Type 0 where
  pub path : IfSome sink.open_one (λ (series : SeriesView D). series.path ≡ sink.path)
  pub kept : is_honest sink.opening → KeepsAll is_honest history sink

-- the same sink: its path, its limits, and the folder when it was opened
pub record IsSameSink {D : Type 0} (old new : RotationView D) : Type 0 where
  pub opening : new.opening ≡ old.opening
  pub path : new.path ≡ old.path
  pub limits : new.limits ≡ old.limits

-- All its files are closed, and the next was begun at this time, or would have been.
pub record Turns {D : Type 0} (time : ℕ) (old new : RotationView D) : Type 0 where
  pub closed : new.closed ≡ files_of old
  pub since : new.since ≡ time

-- Its newest file is the one that it was.
pub record Stays {D : Type 0} (old new : RotationView D) : Type 0 where
  pub closed : new.closed ≡ old.closed
  pub since : new.since ≡ old.since

-- An answer more, with these entries; or after a refusal those that were there. None is forgotten.
abbrev pub Added : (old new : List Kept) → StoredView → Result StoredView SeriesFault → Type 0
Added old new wanted (Ok stored) = (stored ≡ wanted)
    × ((last : Kept) × (last.answer.stored ≡ wanted) × (new ≡ last ∷ old))
Added old new wanted (Err why) = new ≡ old

-- the same of a sink's answers since it was opened
abbrev pub Answers : {D : Type 0} → (old new : RotationView D) → StoredView
    → Result StoredView SeriesFault → Type 0
Answers old new wanted result = Added (answers_of old) (answers_of new) wanted result
