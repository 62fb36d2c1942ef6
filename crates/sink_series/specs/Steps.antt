-- The steps of a sink that stays open: a write, and the next file.
use Rattle.std.specs.Prelude.{ℕ, ◌≡◌, false, List, [], ◌∷◌, IfSome, Option, Some, None, Result, Ok, Err}
use Rattle.disk_files.specs.Moments.{History}
use Rattle.sink_series.specs.Views.{SeriesView, StoredView}
use Rattle.sink_series.specs.Keeping.{Keeps}
use Rattle.sink_series.specs.declared.fault.SeriesFault.{SeriesFault}
use Rattle.sink_series.specs.RotationKeeping.{dir_of, open_of, Lasts}
use Rattle.sink_series.specs.declared.rotation.Files.{Files}
use Rattle.sink_series.specs.declared.rotation.Files.TheVariants.{Open, Shut}

-- It is the same file, if one is open.
abbrev pub SameFile : {D : Type 0} → (old new : Option (SeriesView D)) → Type 0
SameFile None new = new ≡ None
SameFile (Some before) None = ⊥
SameFile (Some before) (Some after) = (after.path ≡ before.path) × (after.opening ≡ before.opening)
    × (after.number ≡ before.number)

-- Files go on: the open file keeps what a sink keeps, and nothing that was safe is lost.
abbrev pub GoesOn : {D A : Type 0} → (is_honest : D → Type 0) → (history : D → History)
    → (old new : Files D A) → Type 0
GoesOn is_honest history (Shut dir) (Open after) = ⊥
GoesOn is_honest history (Shut dir) (Shut left) = left ≡ dir
GoesOn is_honest history (Open before) (Shut left) = ⊥
GoesOn is_honest history (Open before) (Open after) = is_honest before.opening
    → Keeps is_honest history after × Lasts (history before.dir) (history after.dir)

-- In this folder a file was begun, or none: nothing that was safe is lost, and the open file keeps
-- what a sink keeps.
pub record BeginsIn {D A : Type 0} (is_honest : D → Type 0) (history : D → History) (dir : D)
    (files : Files D A) : Type 0 where
  pub honest : is_honest (dir_of files)
  pub lasts : Lasts (history dir) (history (dir_of files))
  pub newest : IfSome (open_of files) (λ (series : SeriesView D). Keeps is_honest history series)

-- The file that is open is the next in this folder, and has nothing yet.
abbrev pub IsBegun : {D : Type 0} → D → List ℕ → Option (SeriesView D) → Type 0
IsBegun dir path None = Unit {0}
IsBegun dir path (Some series) = (series.opening ≡ dir) × (series.path ≡ path) × (series.begun ≡ [])
    × (series.stored ≡ []) × (series.has_failed ≡ false)

-- After a write the open file has an answer more, or those that it had.
abbrev pub Writes : {D : Type 0} → (old new : Option (SeriesView D)) → (tag : List ℕ)
    → (entries : List (List ℕ)) → Result StoredView SeriesFault → Type 0
Writes None new tag entries (Ok stored) = ⊥
Writes None new tag entries (Err why) = new ≡ None
Writes (Some before) None tag entries result = ⊥
Writes (Some before) (Some after) tag entries (Ok stored) =
    (stored ≡ record { path = before.path; tag = tag; entries = entries })
    × ((since : ℕ) × (after.stored ≡ record { stored = stored; since = since } ∷ before.stored))
Writes (Some before) (Some after) tag entries (Err why) = after.stored ≡ before.stored
