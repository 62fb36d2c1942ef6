-- What holds of sinks' content, apart from any call.
use Rattle.std.specs.Prelude.{ℕ, ◌≡◌, ◌≤◌, List, ◌∷◌, ◌++◌, length, take}
use Rattle.disk_files.specs.Disk.{Disk, Folder, StopLeaves, after_stop}
use Rattle.disk_files.specs.Moments.{History}
use Rattle.sink_series.specs.Events.{Event, Holds, under}
use Rattle.sink_series.specs.Views.{Answer}
use Rattle.sink_series.specs.Folders.{SinkHolds}
use Rattle.sink_series.specs.Names.{sink_name, last_number}
use Rattle.sink_series.specs.Keeping.{IsSafe, FileBegins, HasMade, AnsweredStay}

-- bytes have one content
abbrev pub HoldsOne : Type 0
HoldsOne = (bytes : List ℕ) (one other : List Event) → Holds bytes one → Holds bytes other
    → one ≡ other

-- a sink in a folder has one content
abbrev pub SinkHoldsOne : Type 0
SinkHoldsOne = (path : List ℕ) (folder : Folder) (one other : List Event)
    → SinkHolds path folder one → SinkHolds path folder other → one ≡ other

-- what is cut off the end of a file takes only whole events from its content, the last first
abbrev pub CutsWhole : Type 0
CutsWhole = (bytes : List ℕ) (n : ℕ) (all few : List Event) → Holds bytes all
    → Holds (take n bytes) few → few ≡ take (length few) all

-- what is safe in a file stands at the front of the file's content after each stop
abbrev pub SafeBegins : Type 0
SafeBegins = (name : List ℕ) (events : List Event) (disk : Disk) (folder : Folder)
    → IsSafe disk name events → StopLeaves disk folder → FileBegins folder name events

-- what is safe in a file of a sink stands in the sink's content after each stop
abbrev pub SafeIsContent : Type 0
SafeIsContent =
    (path : List ℕ) (n : ℕ) (events all : List Event) (disk : Disk) (folder : Folder) → 1 ≤ n
    → n ≤ last_number → IsSafe disk (sink_name path n) events
    → StopLeaves disk folder → SinkHolds path folder all → (before : List Event)
    × (after : List Event) × (all ≡ before ++ (events ++ after))

-- each answer's entries stand in the sink's content, under their tag, after a stop at any moment
-- since the answer
abbrev pub AnswersStand : Type 0
AnswersStand =
    (path : List ℕ) (n : ℕ) (history : History) (later earlier : List Answer) (answer : Answer)
    → 1 ≤ n → n ≤ last_number → AnsweredStay history (sink_name path n)
    (later ++ answer ∷ earlier)
    → (t : ℕ) → answer.since ≤ t → t ≤ history.moment → (folder : Folder) (all : List Event)
    → StopLeaves (history.disk_at t) folder → SinkHolds path folder all
    → (before : List Event) × (after : List Event)
    × (all ≡ before ++ (under answer.stored.tag answer.stored.entries ++ after))

-- what is safe in a file is safe on the disk from which the folder starts again after a stop
abbrev pub SafeOverStop : Type 0
SafeOverStop = (name : List ℕ) (events : List Event) (disk : Disk) (folder : Folder)
    → IsSafe disk name events → StopLeaves disk folder → IsSafe (after_stop folder) name events

-- an empty file besides, where none was, changes no content: it is that of what another stop could
-- leave
abbrev pub MadeAddsNothing : Type 0
MadeAddsNothing =
    (disk : Disk) (path : List ℕ) (folder : Folder) (all : List Event) → HasMade disk path folder
    → SinkHolds path folder all → (left : Folder) × StopLeaves disk left
    × SinkHolds path left all

-- and it takes nothing away
abbrev pub MadeKeepsSafe : Type 0
MadeKeepsSafe = (disk : Disk) (path name : List ℕ) (folder : Folder) (events : List Event)
    → HasMade disk path folder → IsSafe disk name events → FileBegins folder name events
