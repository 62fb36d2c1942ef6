-- What a call does that reads a file.
use Rattle.std.specs.Prelude.{ℕ, ◌≡◌, ◌+◌, ◌≤◌, List, ◌++◌, take, Option, Some, Result, OnOk, IsErrOf}
use Rattle.disk_files.specs.Disk.{SameDisk, reads}
use Rattle.disk_files.specs.Moments.{History, Elapses, now}
use Rattle.disk_files.specs.declared.dir.FileNo.{FileNo}
use Rattle.file_pieces.specs.Adding.{HasPieceCause}
use Rattle.file_pieces.specs.declared.error.PieceError.{PieceError}
use Rattle.file_pieces.specs.declared.error.PieceError.TheVariants.{Short}

-- The call gives what is promised of the file's bytes, where the file has what is asked of it. The
-- disk stays as it is.
pub record Reads {D T : Type 0} (is_honest : D → Type 0) (history : D → History)
    (opened : D → FileNo → Option (List ℕ)) (bytes_left : D → FileNo → ℕ) (fault_count : D → ℕ)
    (file : FileNo) (Has Gives : List ℕ → Type 0) (old new : D)
    (result : Result T PieceError) : Type 0 where
  pub honest : is_honest old → is_honest new
  pub time : is_honest old → Elapses (history old) (history new)
  pub same : is_honest old → SameDisk (now (history new)) (now (history old))
  pub stays_open : (other : FileNo) → opened new other ≡ opened old other
  pub room : (other : FileNo) → bytes_left old other ≤ bytes_left new other
  pub cause : HasPieceCause (fault_count old) (fault_count new) result
  pub ok : is_honest old → (name seen : List ℕ) → opened old file ≡ Some name
      → reads (now (history old)) name ≡ Some seen → Has seen → OnOk result (Gives seen)
  pub whole : is_honest old → (name seen : List ℕ) → opened old file ≡ Some name
      → reads (now (history old)) name ≡ Some seen → Has seen → IsErrOf result Short → ⊥

-- so many bytes, which are these, came behind the first so many
abbrev pub ReadsOn : ℕ → ℕ → List ℕ → List ℕ → List ℕ → Type 0
ReadsOn done count bytes old new = take (done + count) new ≡ take done old ++ bytes
