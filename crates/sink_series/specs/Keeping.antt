-- What of a sink's file a stop leaves.
use Rattle.std.specs.Prelude.{ℕ, ◌≡◌, ◌≢◌, ◌⊎◌, ◌≤◌, Bool, true, false, List, [], ◌∷◌, ◌++◌, length, take, Option, Some, None}
use Rattle.std.specs.List.{AllByRecursion}
use Rattle.disk_files.specs.Disk.{File, Disk, Folder, SameDisk, StopLeaves}
use Rattle.sink_series.specs.Events.{Event, IsEvent, run_of, under, Holds}
use Rattle.disk_files.specs.Moments.{History, LeavesOnly, now}
use Rattle.sink_series.specs.Names.{sink_name}
use Rattle.sink_series.specs.Views.{SeriesView, Answer, newest}

-- a file that holds these events, with all their items synced, where it may itself be certain or
-- not
abbrev pub file_with : List Event → Bool → File
file_with events is_durable = record {
  written = run_of events;
  synced = length (run_of events);
  is_durable = is_durable;
  is_removed = false;
}

-- The events are certainly in the file of this name: the file is certainly on the disk, and what is
-- synced of it begins with their items.
pub record IsSafe (disk : Disk) (name : List ℕ) (events : List Event) : Type 0 where
  pub file : File
  pub found : disk name ≡ Some file
  pub durable : file.is_durable ≡ true
  pub there : file.is_removed ≡ false
  pub each : AllByRecursion IsEvent events
  pub more : List ℕ
  pub synced : take file.synced file.written ≡ run_of events ++ more

-- At each moment since old, that moment among them, the events are certainly in the file of this
-- name, and the past is as it was.
pub record StaysSafe (old new : History) (name : List ℕ) (events : List Event) : Type 0 where
  pub later : old.moment ≤ new.moment
  pub past : (t : ℕ) → t ≤ old.moment → SameDisk (new.disk_at t) (old.disk_at t)
  pub each : (t : ℕ) → old.moment ≤ t → t ≤ new.moment → IsSafe (new.disk_at t) name events

-- At each moment since old each file but that of this name is as it was then, and the past is as it
-- was.
pub record OthersStay (old new : History) (own : List ℕ) : Type 0 where
  pub later : old.moment ≤ new.moment
  pub past : (t : ℕ) → t ≤ old.moment → SameDisk (new.disk_at t) (old.disk_at t)
  pub each : (t : ℕ) → old.moment ≤ t → t ≤ new.moment → (name : List ℕ) → name ≢ own
      → new.disk_at t name ≡ now old name

-- the folder has a file of this name, whose content begins with these events
abbrev pub FileBegins : Folder → List ℕ → List Event → Type 0
FileBegins folder name events =
    (bytes : List ℕ) × (folder name ≡ Some bytes)
    × ((all : List Event) → Holds bytes all → take (length events) all ≡ events)

-- the content of a file, where it is there, is a beginning of the events begun in it, and has at
-- least those of the first so many
abbrev pub IsBeginning : Folder → List ℕ → ℕ → List Event → Type 0
IsBeginning folder name least begun =
    (bytes : List ℕ) → folder name ≡ Some bytes → (events : List Event) → Holds bytes events
    → (events ≡ take (length events) begun) × (least ≤ length events)

-- what another stop could leave, where one file of the sink that wasn't there may be there besides,
-- empty
abbrev pub HasMade : Disk → List ℕ → Folder → Type 0
HasMade disk path folder =
    (left : Folder) × StopLeaves disk left
    × ((name : List ℕ) → (folder name ≡ left name)
    ⊎ (((n : ℕ) × (name ≡ sink_name path n)) × (left name ≡ None) × (folder name ≡ Some [])))

-- The folder of an open sink is honest, and as long as no write has failed, its newest file holds
-- the events begun in it and nothing else. This stands from the opening on, where the folder was
-- honest then.
pub record IsHonest {D : Type 0} (is_honest : D → Type 0) (history : D → History)
    (series : SeriesView D) : Type 0 where
  pub dir : is_honest series.dir
  pub written : series.has_failed ≡ false → (is_durable : Bool)
      × (now (history series.dir) (newest series) ≡ Some (file_with series.begun is_durable))

-- the events of answers, of which the last is the first here, in the order in which they were
-- written
abbrev pub answered : List Answer → List Event
answered [] = []
answered (last ∷ before) = answered before ++ under last.stored.tag last.stored.entries

-- at each moment since an answer its events, behind those of all earlier answers, are certainly in
-- the file of this name
abbrev pub AnsweredStay : History → List ℕ → List Answer → Type 0
AnsweredStay history name [] = Unit {0}
AnsweredStay history name (last ∷ before) =
    (last.since ≤ history.moment)
    × ((t : ℕ) → last.since ≤ t → t ≤ history.moment
    → IsSafe (history.disk_at t) name (answered (last ∷ before)))
    × AnsweredStay history name before

-- What a sink knows whose folder was honest when it was opened, whatever was called since, also
-- after a failure: its folder is honest, each of its answers is certainly in its newest file from
-- the answer on, at no moment does a stop leave anything there but a beginning of what was begun,
-- and what was safe at the opening has been safe since.
pub record Keeps {D : Type 0} (is_honest : D → Type 0) (history : D → History)
    (series : SeriesView D) : Type 0 where
  pub honest : IsHonest is_honest history series
  pub begun : series.has_failed ≡ false → series.begun ≡ answered series.stored
  pub stored : AnsweredStay (history series.dir) (newest series) series.stored
  pub begins : LeavesOnly (history series.opening) (history series.dir)
      (λ folder. IsBeginning folder (newest series) 0 series.begun)
  pub older : (name : List ℕ) (events : List Event)
      → IsSafe (now (history series.opening)) name events → StaysSafe (history series.opening)
      (history series.dir) name events

-- the file that an open sink writes to has this name, and what was begun in it are events
pub record IsSound (opened : Option (List ℕ)) (name : List ℕ) (begun : List Event) : Type 0 where
  pub named : opened ≡ Some name
  pub each : AllByRecursion IsEvent begun

-- an open sink: the file that it writes to is open, and it keeps what it answered
pub record IsOpen {D : Type 0} (is_honest : D → Type 0) (history : D → History)
    (opened : Option (List ℕ)) (series : SeriesView D) : Type 0 where
  pub sound : IsSound opened (newest series) series.begun
  pub kept : is_honest series.opening → Keeps is_honest history series
