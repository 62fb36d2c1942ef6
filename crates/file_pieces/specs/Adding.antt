-- What a call does that adds bytes to a file, some of which another file has.
use Rattle.std.specs.Prelude.{ℕ, ◌≡◌, ◌≢◌, ◌+◌, ◌≤◌, List, take, Option, Some, option_map, Result, OnOk, OnErr, IsErrOf}
use Rattle.disk_files.specs.Disk.{Disk, Folder, StopLeaves, Changes, with_bytes, with_file, SameDisk, reads}
use Rattle.disk_files.specs.Moments.{History, LeavesOnly, now}
use Rattle.disk_files.specs.Faults.{Rises}
use Rattle.disk_files.specs.declared.dir.FileNo.{FileNo}
use Rattle.file_pieces.specs.declared.error.PieceError.{PieceError}
use Rattle.file_pieces.specs.declared.error.PieceError.TheVariants.{Fault, Short}

-- what is left of an append
pub record Partly (name bytes : List ℕ) (before after : Disk) : Type 0 where
  pub len : ℕ
  pub grew : SameDisk after
      (with_file before name (option_map (with_bytes (take len bytes)) (before name)))

-- a stop may leave this folder of a disk that is so
pub record IsLeftOf (IsSo : Disk → Type 0) (folder : Folder) : Type 0 where
  pub disk : Disk
  pub so : IsSo disk
  pub stays : StopLeaves disk folder

-- the one open file is that of the source, which has these bytes, and the other that of another
-- name
pub record Copies (opened : FileNo → Option (List ℕ)) (disk : Disk) (from to : FileNo)
    (source name seen : List ℕ) : Type 0 where
  pub source_is : opened from ≡ Some source
  pub name_is : opened to ≡ Some name
  pub apart : source ≢ name
  pub there : reads disk source ≡ Some seen

-- nothing is asked of the source
abbrev pub HasAny : List ℕ → Type 0
HasAny seen = Unit {0}

-- The count of the device's refusals rises at a fault, and at nothing else.
pub record HasPieceCause {T : Type 0} (before after : ℕ)
    (result : Result T PieceError) : Type 0 where
  pub later : before ≤ after
  pub passed : OnOk result (after ≡ before)
  pub failed : IsErrOf result Fault → Rises before after
  pub short : IsErrOf result Short → after ≡ before

-- some bytes were added
pub record Grows (name : List ℕ) (before after : Disk) : Type 0 where
  pub bytes : List ℕ
  pub grew : Changes name (with_bytes bytes) before after

-- The call adds these bytes, which may be some of the source's, where the source has what is asked
-- of it; or, after an error, a beginning of them. At no moment does a stop leave anything else.
-- Files of other names stay as they are, and each open file stays open.
pub record Adds {D T : Type 0} (is_honest : D → Type 0) (history : D → History)
    (opened : D → FileNo → Option (List ℕ)) (bytes_left : D → FileNo → ℕ) (fault_count : D → ℕ)
    (from to : FileNo) (size : ℕ) (Has : List ℕ → Type 0) (bytes : List ℕ → List ℕ) (old new : D)
    (result : Result T PieceError) : Type 0 where
  pub honest : is_honest old → is_honest new
  pub stays_open : (other : FileNo) → opened new other ≡ opened old other
  pub room : bytes_left old to ≤ bytes_left new to + size
  pub cause : HasPieceCause (fault_count old) (fault_count new) result
  pub elsewhere : is_honest old → (name other : List ℕ) → opened old to ≡ Some name → other ≢ name
      → now (history new) other ≡ now (history old) other
  pub grows : is_honest old → (name : List ℕ) → opened old to ≡ Some name
      → Grows name (now (history old)) (now (history new))
  pub ok : is_honest old → (source name seen : List ℕ)
      → Copies (opened old) (now (history old)) from to source name seen → Has seen
      → OnOk result (Changes name (with_bytes (bytes seen)) (now (history old)) (now (history new)))
  pub err : is_honest old → (source name seen : List ℕ)
      → Copies (opened old) (now (history old)) from to source name seen → Has seen
      → OnErr result (Partly name (bytes seen) (now (history old)) (now (history new)))
  pub moments : is_honest old → (source name seen : List ℕ)
      → Copies (opened old) (now (history old)) from to source name seen → Has seen
      → LeavesOnly (history old) (history new)
      (IsLeftOf (Partly name (bytes seen) (now (history old))))
  pub whole : is_honest old → (source name seen : List ℕ)
      → Copies (opened old) (now (history old)) from to source name seen → Has seen
      → IsErrOf result Short → ⊥
