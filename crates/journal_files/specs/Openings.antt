-- What opening a journal gives, why it is refused, and the folder that it leaves.
use Rattle.std.specs.Prelude.{ℕ, ◌≡◌, ◌≢◌, ◌⊎◌, ◌-◌, ◌<◌, ◌^◌, List, Option, IsSome, None, ◌≤◌}
use Rattle.disk_files.specs.Disk.{Disk, SameDisk, reads}
use Rattle.disk_files.specs.Moments.{History, LeavesOnly, now}
use Rattle.disk_files.specs.declared.dir.FileNo.{FileNo}
use Rattle.buffer_state.specs.State.{State}
use Rattle.buffer_state.specs.Steps.{settled, reopened}
use Rattle.journal_files.specs.Folders.{journal_name, Opens, IsDamagedFolder, IsNext, OpensWithin}
use Rattle.journal_files.specs.JournalLogs.{JournalLog, new_generation, state_of}
use Rattle.journal_files.specs.Views.{OpenJournal, IsOpenIn, HasShortTags}
use Rattle.journal_files.specs.Disks.{Keeps, Recovers, HasNoGap}
use Rattle.journal_files.specs.Leftovers.{ReadsAs, LeavesAtMost}
use Rattle.journal_files.specs.declared.error.JournalError.{JournalError}
use Rattle.journal_files.specs.declared.error.JournalError.TheVariants.{Fault, Damaged, LastGeneration}

-- The folder means these chunks. The journal goes on with them in the next generation, and none
-- below it reads.
pub record OpensNext (path : List ℕ) (old new : Disk) (journal : OpenJournal)
    (chunks : State) : Type 0 where
  pub means : Opens path (reads old) chunks
  pub next : IsNext path old journal.number
  pub keeps : HasNoGap path old → Keeps journal new (new_generation chunks)
  pub alone : (n : ℕ) → 1 ≤ n → n < journal.number → reads new (journal_name path n) ≡ None

-- A journal just opened has its file open. None of its chunks is claimed, and the queue goes by
-- rising serial; and telling them comes to them.
pub record IsFresh (path : List ℕ) (opened : FileNo → Option (List ℕ)) (journal : OpenJournal)
    (chunks : State) : Type 0 where
  pub path_is : journal.path ≡ path
  pub open_in : IsOpenIn journal opened
  pub unclaimed : reopened chunks ≡ chunks
  pub starts : settled (state_of (new_generation chunks)) ≡ reopened chunks
  pub tags : HasShortTags chunks

-- Why an opening is refused, and what it leaves to be read then. A folder that recovers is never
-- damaged; and where the last generation is there, none is read. Only after a `Fault` may anything
-- have changed: then the folder reads as before, but for what is left of the next generation; and
-- where that one is whole, older ones may be gone.
pub record IsRefused (path : List ℕ) (faults new_faults : ℕ) (old new : Disk)
    (refused : JournalError) : Type 0 where
  pub damaged : refused ≡ Damaged → IsDamagedFolder path (reads old)
  pub undamaged : (t : JournalLog) → Recovers path old t → refused ≢ Damaged
  pub last : refused ≡ LastGeneration → IsSome (reads old (journal_name path (2 ^ 32 - 1)))
  pub unread : IsSome (reads old (journal_name path (2 ^ 32 - 1))) → refused ≢ Damaged
  pub unchanged : refused ≢ Fault → SameDisk new old
  pub left : HasNoGap path old → ReadsAs old new
      ⊎ ((number : ℕ) × IsNext path old number × LeavesAtMost path number faults new_faults old new)

-- What an opening leaves of an honest folder, whatever it answers: an honest one. Files of other
-- names stay as they are, and the removed generations leave no gap where they left none. A stop at
-- any moment of the call leaves a folder that opens to what one before the call could open to.
pub record LeavesFolder {D : Type 0} (is_honest : D → Type 0) (history : D → History)
    (path : List ℕ) (dir left : D) : Type 0 where
  pub honest : is_honest left
  pub elsewhere : (name : List ℕ) → ((n : ℕ) → n < 2 ^ 32 → name ≢ journal_name path n)
      → now (history left) name ≡ now (history dir) name
  pub gap : HasNoGap path (now (history dir)) → HasNoGap path (now (history left))
  pub moments : HasNoGap path (now (history dir)) → (t : JournalLog)
      → Recovers path (now (history dir)) t → LeavesOnly (history dir) (history left)
      (OpensWithin path t)
