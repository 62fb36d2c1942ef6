-- What the files of a folder in memory were before each call that changed them, the last call
-- first.
use Rattle.std.specs.Prelude.{ℕ, List, [], ◌∷◌, length, nat_lt, cond}
use Rattle.disk_files.specs.Disk.{Disk}
use Rattle.disk_files.specs.Entry.{Entry}
use Rattle.disk_files.specs.Table.{disk_of}
use Rattle.disk_files.specs.Moments.{History}

-- the disk at a moment: as it is from the last change on, else as it was then
abbrev pub disk_then : List Entry → List (List Entry) → ℕ → Disk
disk_then files [] t = disk_of files
disk_then files (before ∷ earlier) t = cond (nat_lt (length earlier) t) (disk_of files)
    (disk_then before earlier t)

-- the disk at each moment, where each change is a moment
abbrev pub history_of : List Entry → List (List Entry) → History
history_of files past = record { moment = length past; disk_at = disk_then files past }
