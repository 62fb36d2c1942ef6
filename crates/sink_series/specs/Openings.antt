-- What opening a sink gives, and the folder that it leaves.
use Rattle.std.specs.Prelude.{ℕ, ◌≡◌, ◌⊎◌, ◌≤◌, false, List, [], Result, Ok, Err, IsSome}
use Rattle.disk_files.specs.Disk.{Disk, SameDisk, Makes, reads}
use Rattle.disk_files.specs.Moments.{History, LeavesOnly, now}
use Rattle.sink_series.specs.Events.{Event}
use Rattle.sink_series.specs.Names.{sink_name, last_number}
use Rattle.sink_series.specs.Views.{SeriesView, newest}
use Rattle.sink_series.specs.Folders.{IsNext}
use Rattle.sink_series.specs.Keeping.{IsSafe, StaysSafe, HasMade, Keeps}
use Rattle.sink_series.specs.declared.fault.SeriesFault.{SeriesFault}
use Rattle.sink_series.specs.declared.fault.SeriesFault.TheVariants.{Fault, LastNumber}

-- the folder that is left, whatever is answered
abbrev pub folder_left : {D : Type 0} → Result (SeriesView D) (SeriesFault × D) → D
folder_left (Ok series) = series.dir
folder_left (Err refused) = refused.1

-- the answer, without the folder that a refusal hands back
abbrev pub answer_of : {D : Type 0} → Result (SeriesView D) (SeriesFault × D)
    → Result (SeriesView D) SeriesFault
answer_of (Ok series) = Ok series
answer_of (Err refused) = Err refused.0

-- a sink just opened, of which nothing was asked yet
pub record IsFresh {D : Type 0} (dir : D) (path : List ℕ) (series : SeriesView D) : Type 0 where
  pub opening : series.opening ≡ dir
  pub path_is : series.path ≡ path
  pub begun : series.begun ≡ []
  pub stored : series.stored ≡ []
  pub ready : series.has_failed ≡ false
  pub from : 1 ≤ series.number
  pub to : series.number ≤ last_number

-- Opening makes the sink's next file and nothing else, and from then on the sink keeps what it
-- answers.
pub record OpensNext {D : Type 0} (is_honest : D → Type 0) (history : D → History) (dir : D)
    (path : List ℕ) (series : SeriesView D) : Type 0 where
  pub next : IsNext path (reads (now (history dir))) series.number
  pub made : Makes (newest series) (now (history dir)) (now (history series.dir))
  pub kept : Keeps is_honest history series

-- What opening leaves of an honest folder, whatever it answers: an honest one. A stop at any moment
-- leaves what a stop before the call could leave, but for an empty file of the sink besides, and
-- what was safe stays so.
pub record LeavesSafe {D : Type 0} (is_honest : D → Type 0) (history : D → History) (path : List ℕ)
    (dir left : D) : Type 0 where
  pub honest : is_honest left
  pub moments : LeavesOnly (history dir) (history left) (HasMade (now (history dir)) path)
  pub safe : (name : List ℕ) (events : List Event) → IsSafe (now (history dir)) name events
      → StaysSafe (history dir) (history left) name events

-- A refused opening changed nothing, but that where the device failed the sink's next file may be
-- there. `LastNumber`: that of the last number is.
pub record IsRefused (path : List ℕ) (old new : Disk) (fault : SeriesFault) : Type 0 where
  pub disk : SameDisk new old
      ⊎ ((fault ≡ Fault) × (n : ℕ) × IsNext path (reads old) n × Makes (sink_name path n) old new)
  pub last : fault ≡ LastNumber → IsSome (reads old (sink_name path last_number))
