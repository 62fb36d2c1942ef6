-- What a call leaves to be read that didn't come to a new generation.
use Rattle.std.specs.Prelude.{ℕ, ◌≡◌, ◌⊎◌, ◌+◌, ◌-◌, ◌^◌, ◌≤◌, false, List, [], None, Some}
use Rattle.std.specs.Str.{bytes_eq}
use Rattle.std.specs.Map.{update}
use Rattle.disk_files.specs.Disk.{Disk, SameDisk, reads}
use Rattle.buffer_state.specs.State.{State}
use Rattle.journal_files.specs.Disks.{Keeps}
use Rattle.journal_files.specs.Folders.{journal_name}
use Rattle.journal_files.specs.JournalLogs.{new_generation}
use Rattle.journal_files.specs.Views.{OpenJournal}

-- the folder reads as before: the same files, with the same bytes
abbrev pub ReadsAs : Disk → Disk → Type 0
ReadsAs before after = (name : List ℕ) → reads after name ≡ reads before name

-- The file that was begun stays, and isn't certainly on the disk: it is empty, where the device
-- failed in making it; or the device has failed twice, as far as its count goes: as the file was
-- written and as it was to be removed.
pub record StaysBegun (first last : ℕ) (name : List ℕ) (before after : Disk) : Type 0 where
  pub bytes : List ℕ
  pub none : before name ≡ None
  pub made : SameDisk after (update bytes_eq before name
      (Some (record { written = bytes; synced = 0; is_durable = false; is_removed = false })))
  pub why : (bytes ≡ []) ⊎ ((first + 2 ≤ last) ⊎ (2 ^ 64 - 1 ≤ last))

-- the generation of this number is whole, and synced
pub record IsWholeAt (path : List ℕ) (number : ℕ) (disk : Disk) : Type 0 where
  pub journal : OpenJournal
  pub chunks : State
  pub path_is : journal.path ≡ path
  pub number_is : journal.number ≡ number
  pub keeps : Keeps journal disk (new_generation chunks)

-- nothing is left of the file of the generation of this number; or it stays as it was begun; or it
-- is whole, and older ones may be gone
abbrev pub LeavesAtMost : List ℕ → ℕ → ℕ → ℕ → Disk → Disk → Type 0
LeavesAtMost path number first last before after = ReadsAs before after
    ⊎ (StaysBegun first last (journal_name path number) before after ⊎ IsWholeAt path number after)

-- nothing is left of the file of this name, or it stays as it was begun. (A word of private
-- functions.)
abbrev pub IsGivenUp : ℕ → ℕ → List ℕ → Disk → Disk → Type 0
IsGivenUp first last name before after = ReadsAs before after
    ⊎ StaysBegun first last name before after
