-- What the calls of an open journal do to it and to its folder.
use Rattle.std.specs.Prelude.{ℕ, ◌≡◌, ◌≢◌, ◌↔◌, ◌+◌, ◌≤◌, ◌^◌, List, Option, Result, Err, OnOk, OnErr}
use Rattle.disk_files.specs.Disk.{SameDisk}
use Rattle.disk_files.specs.Moments.{History, LeavesOnly, now}
use Rattle.disk_files.specs.Faults.{HasCause}
use Rattle.disk_files.specs.declared.dir.FileNo.{FileNo}
use Rattle.disk_files.specs.declared.dir.DirError.{DirError}
use Rattle.disk_files.specs.declared.dir.DirError.TheVariants as dir
use Rattle.buffer_state.specs.State.{State}
use Rattle.buffer_state.specs.Steps.{settled, reopened}
use Rattle.chunk_journal.specs.Records.{Record}
use Rattle.journal_files.specs.Folders.{journal_name, OpensWithin}
use Rattle.journal_files.specs.JournalLogs.{JournalLog, begun, new_generation, state_of}
use Rattle.journal_files.specs.Views.{OpenJournal, IsOpenIn}
use Rattle.journal_files.specs.Disks.{Keeps, Recovers}
use Rattle.journal_files.specs.Faults.{HasReason}
use Rattle.journal_files.specs.Leftovers.{LeavesAtMost}
use Rattle.journal_files.specs.declared.error.JournalError.{JournalError}
use Rattle.journal_files.specs.declared.error.JournalError.TheVariants as refusal

-- The call writes to the generation's own file alone: files of other names stay as they are, and
-- each open file stays open. It is refused only where the device fails.
pub record WritesOwn {D T : Type 0} (is_honest : D → Type 0) (history : D → History)
    (opened : D → FileNo → Option (List ℕ)) (fault_count : D → ℕ)
    (journal : OpenJournal) (old new : D) (result : Result T DirError) : Type 0 where
  pub honest : is_honest old → is_honest new
  pub elsewhere : is_honest old → (name : List ℕ) → name ≢ journal_name journal.path journal.number
      → now (history new) name ≡ now (history old) name
  pub stays_open : (other : FileNo) → opened new other ≡ opened old other
  pub cause : HasCause (fault_count old) (fault_count new) result
  pub only : OnErr result (result ≡ Err dir.Fault)

-- What a call that begins a step makes of what the journal tells. After an error a stop leaves it
-- or not, and so it is at each moment of the call.
pub record BeginsStep {T E : Type 0} (old new : OpenJournal) (before after : History)
    (t : JournalLog) (item : Record) (result : Result T E) : Type 0 where
  pub ok : OnOk result (Keeps new (now after) (begun item t))
  pub err : OnErr result (Recovers old.path (now after) (begun item t))
  pub moments : LeavesOnly before after (OpensWithin old.path (begun item t))

-- What a renewal with the chunks that the journal means makes of it. It finds no damage. Where it
-- is refused the folder reads as before, but for what the device's failures leave; and at each
-- moment a stop leaves a folder that opens as before.
pub record Renews {T : Type 0} (old new : OpenJournal) (chunks : State) (first last : ℕ)
    (before after : History) (t : JournalLog) (result : Result T JournalError) : Type 0 where
  pub ok : OnOk result (Keeps new (now after) (new_generation chunks))
  pub whole : result ≢ Err refusal.Damaged
  pub fault : result ≡ Err refusal.Fault → Recovers old.path (now after) t
  pub left : OnErr result (LeavesAtMost old.path (old.number + 1) first last (now before)
      (now after))
  pub moments : LeavesOnly before after (OpensWithin old.path t)

-- the journal of the next generation, and telling its chunks comes to them
pub record IsNextOf (old new : OpenJournal) (chunks : State) : Type 0 where
  pub number : new.number ≡ old.number + 1
  pub state : settled (state_of (new_generation chunks)) ≡ reopened chunks

-- What a refused renewal leaves as it was: the journal, and where the generation is the last one,
-- or memory is refused, the disk.
pub record RefusesRenewal {D T : Type 0} (is_honest : D → Type 0) (history : D → History)
    (journal new_journal : OpenJournal) (old new : D)
    (result : Result T JournalError) : Type 0 where
  pub journal_is : OnErr result (new_journal ≡ journal)
  pub last : (result ≡ Err refusal.LastGeneration) ↔ (2 ^ 32 ≤ journal.number + 1)
  pub unchanged : is_honest old → result ≡ Err refusal.LastGeneration
      → SameDisk (now (history new)) (now (history old))
  pub memory_same : is_honest old → result ≡ Err refusal.Memory
      → SameDisk (now (history new)) (now (history old))

-- What a renewal leaves, whatever it answers: files of other names stay as they are, and but for a
-- `Fault` the journal's file is open.
pub record LeavesOthers {D T : Type 0} (is_honest : D → Type 0) (history : D → History)
    (opened : D → FileNo → Option (List ℕ)) (fault_count : D → ℕ)
    (journal new_journal : OpenJournal) (old new : D)
    (result : Result T JournalError) : Type 0 where
  pub honest : is_honest old → is_honest new
  pub elsewhere : is_honest old → (name : List ℕ) → name ≢ journal_name journal.path journal.number
      → name ≢ journal_name journal.path (journal.number + 1)
      → now (history new) name ≡ now (history old) name
  pub path_is : new_journal.path ≡ journal.path
  pub open_in : result ≢ Err refusal.Fault → IsOpenIn new_journal (opened new)
  pub cause : HasReason (fault_count old) (fault_count new) result refusal.Fault
