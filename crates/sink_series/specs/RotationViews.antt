-- What contracts see of a sink that stays open over several files.
use Rattle.std.specs.Prelude.{ℕ, ◌≤◌, ◌⊎◌, ◌-◌, List, [], ◌∷◌, ◌++◌, map, Option, Some, None}
use Rattle.std.specs.List.{flat_map}
use Rattle.sink_series.specs.Views.{SeriesView, Answer, newest}
use Rattle.sink_series.specs.declared.limits.FileLimits.{FileLimits}

-- a file of the sink, and the answers whose entries it has, the last first
pub record FileView : Type 0 where
  pub name : List ℕ
  pub stored : List Answer

-- the newest file of a sink just as it stands
abbrev pub file_of : {D : Type 0} → SeriesView D → FileView
file_of series = record { name = newest series; stored = series.stored }

-- a sink that stays open: its folder, that folder when the sink was opened, its path, the files
-- that were closed since then, the last first, the file that is open if there is one, how many
-- bytes of entries this has, since when it is open, and from when on the next may be begun where it
-- can't be written
pub record RotationView (D : Type 0) : Type 0 where
  pub dir : D
  pub opening : D
  pub path : List ℕ
  pub limits : FileLimits
  pub closed : List FileView
  pub open_one : Option (SeriesView D)
  pub size : ℕ
  pub since : ℕ
  pub retry : Option ℕ

-- the file that is open
abbrev pub newest_file : {D : Type 0} → Option (SeriesView D) → List FileView
newest_file None = []
newest_file (Some series) = file_of series ∷ []

-- its files since it was opened, the newest first
abbrev pub files_of : {D : Type 0} → RotationView D → List FileView
files_of sink = newest_file sink.open_one ++ sink.closed

-- an answer, and the file that has its entries
pub record Kept : Type 0 where
  pub name : List ℕ
  pub answer : Answer

-- the answers of a file
abbrev pub kept_in : FileView → List Kept
kept_in file = map (λ answer. record { name = file.name; answer = answer }) file.stored

-- all its answers since it was opened, the last first
abbrev pub answers_of : {D : Type 0} → RotationView D → List Kept
answers_of sink = flat_map kept_in (files_of sink)

-- The next file is begun: the newest one has entries, and is large or old enough; or it can't be
-- written, and the time to try again has come.
abbrev pub IsDue : FileLimits → ℕ → ℕ → Option ℕ → ℕ → Type 0
IsDue limits size since None time = (1 ≤ size)
    × ((limits.bytes ≤ size) ⊎ (limits.millis ≤ time - since))
IsDue limits size since (Some from) time = from ≤ time
