-- A folder on a disk: what was written to its files, how much of that is certainly there, and what
-- a stop may leave.
use Rattle.std.specs.Prelude.{◌≡◌, ◌⊎◌, ℕ, ◌≤◌, Bool, true, false, List, [], ◌++◌, length, take, Option, Some, None, IsSome, cond, option_map, option_and_then}
use Rattle.std.specs.Str.{bytes_eq}
use Rattle.std.specs.Map.{update}

-- a file: all that was written to it, how many of these bytes are certainly on the disk, whether
-- the file itself is, and whether it was removed
pub record File : Type 0 where
  pub written : List ℕ
  pub synced : ℕ
  pub is_durable : Bool
  pub is_removed : Bool

-- the file of each name
abbrev pub Disk : Type 0
Disk = List ℕ → Option File

-- the bytes of each name
abbrev pub Folder : Type 0
Folder = List ℕ → Option (List ℕ)

-- a file just made: it is empty, and not certainly on the disk
abbrev pub new_file : File
new_file = record { written = []; synced = 0; is_durable = false; is_removed = false }

-- the file with these bytes at its end
abbrev pub with_bytes : List ℕ → File → File
with_bytes bytes f = record f { written = f.written ++ bytes }

-- the file after a sync: it is certainly on the disk, with all that was written
abbrev pub flushed : File → File
flushed f = record f { synced = length f.written; is_durable = true }

-- the file after its removal
abbrev pub unlinked : File → File
unlinked f = record f { is_removed = true }

-- the disk with this file, or none, at a name
abbrev pub with_file : Disk → List ℕ → Option File → Disk
with_file disk name file = update bytes_eq disk name file

-- the same file, or none, at each name
abbrev pub SameDisk : Disk → Disk → Type 0
SameDisk a b = (name : List ℕ) → a name ≡ b name

-- a file of this name, of which there was none, was made, and nothing else changed
abbrev pub Makes : List ℕ → Disk → Disk → Type 0
Makes name before after = (before name ≡ None)
    × SameDisk after (with_file before name (Some new_file))

-- the file of this name changed so, and nothing else did
abbrev pub Changes : List ℕ → (File → File) → Disk → Disk → Type 0
Changes name how before after =
    SameDisk after (with_file before name (option_map how (before name)))

-- the folder as it reads: of each file all that was written, and nothing once it was removed
abbrev pub reads : Disk → Folder
reads disk name = option_and_then (λ f. cond f.is_removed None (Some f.written)) (disk name)

-- the same of one file, or of none
abbrev pub read_of : Option File → Option (List ℕ)
read_of file = option_and_then (λ f. cond f.is_removed None (Some f.written)) file

-- a file of this name was there, and was removed
abbrev pub WasRemoved : Disk → List ℕ → Type 0
WasRemoved disk name = IsSome (disk name) × (reads disk name ≡ None)

-- What a stop may leave of one file: a beginning of what was written that holds at least what was
-- synced. Nothing may be left where the file was removed, or isn't certainly on the disk.
abbrev pub MayStay : Option File → Option (List ℕ) → Type 0
MayStay None left = left ≡ None
MayStay (Some f) None = (f.is_removed ≡ true) ⊎ (f.is_durable ≡ false)
MayStay (Some f) (Some bytes) = (f.synced ≤ length bytes) × (take (length bytes) f.written ≡ bytes)

-- a stop may leave this folder: of each file what may stay of it, whatever stays of the others
abbrev pub StopLeaves : Disk → Folder → Type 0
StopLeaves disk folder = (name : List ℕ) → MayStay (disk name) (folder name)

-- a file all of which is on the disk
abbrev pub kept_file : List ℕ → File
kept_file bytes = record {
  written = bytes;
  synced = length bytes;
  is_durable = true;
  is_removed = false;
}

-- the disk after a stop that left this folder: what is left counts as synced
abbrev pub after_stop : Folder → Disk
after_stop folder name = option_map kept_file (folder name)
