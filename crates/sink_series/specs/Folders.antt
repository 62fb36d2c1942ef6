-- What a sink's files in a folder hold.
use Rattle.std.specs.Prelude.{ℕ, zero, suc, ◌≡◌, ◌⊎◌, ◌-◌, ◌≤◌, List, [], ◌++◌, Option, Some, None, IsSome}
use Rattle.disk_files.specs.Disk.{Folder}
use Rattle.sink_series.specs.Events.{Event, Holds}
use Rattle.sink_series.specs.Names.{sink_name, last_number}

-- the content of a file that may be there
abbrev pub FileHolds : Option (List ℕ) → List Event → Type 0
FileHolds None events = events ≡ []
FileHolds (Some bytes) events = Holds bytes events

-- the content of the files from 1 to this number, in order
unfoldable pub HoldsTo : List ℕ → Folder → ℕ → List Event → Type 0
HoldsTo path folder zero events = events ≡ []
HoldsTo path folder (suc n) events =
    (before : List Event) × (last : List Event) × HoldsTo path folder n before
    × FileHolds (folder (sink_name path (suc n))) last × (events ≡ before ++ last)

-- the content of a sink in a folder: that of its files by rising number
abbrev pub SinkHolds : List ℕ → Folder → List Event → Type 0
SinkHolds path folder events = HoldsTo path folder last_number events

-- the folder has the sink's file of this number
abbrev pub HasFile : List ℕ → Folder → ℕ → Type 0
HasFile path folder n = (1 ≤ n) × (n ≤ last_number) × IsSome (folder (sink_name path n))

-- the number of the next file: one above the greatest that is there, or 1
pub record IsNext (path : List ℕ) (folder : Folder) (number : ℕ) : Type 0 where
  pub from : 1 ≤ number
  pub to : number ≤ last_number
  pub above : (n : ℕ) → number ≤ n → n ≤ last_number → folder (sink_name path n) ≡ None
  pub follows : (number ≡ 1) ⊎ IsSome (folder (sink_name path (number - 1)))
