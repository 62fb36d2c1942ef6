-- The journal of a buffer in its folder, and what one record more makes of it. (Words of private
-- functions; `Flags` serves receipts too.)
use Rattle.std.specs.Prelude.{ℕ, ◌≡◌, ◌≢◌, ◌⊎◌, ◌↔◌, ◌≤◌, ◌+◌, ◌^◌, ◌||◌, Bool, true, false, cond, List, Option, None, Result, Vec, IfOk, OnOk, OnErr, Err}
use Rattle.disk_files.specs.Disk.{SameDisk, reads}
use Rattle.disk_files.specs.Moments.{History, Elapses, LeavesOnly, now}
use Rattle.disk_files.specs.declared.dir.FileNo.{FileNo}
use Rattle.buffer_state.specs.Steps.{settled, reopened}
use Rattle.chunk_journal.specs.Records.{Record, Seal, Append, Queue, Purge}
use Rattle.chunk_journal.specs.Meaning.{Allows}
use Rattle.chunk_journal.specs.Places.{entries_at}
use Rattle.journal_files.specs.Folders.{journal_name, OpensWithin}
use Rattle.journal_files.specs.JournalLogs.{JournalLog, IsJournalLog, begun, all_durable, new_generation, state_of}
use Rattle.journal_files.specs.Views.{OpenJournal, IsOpenIn}
use Rattle.journal_files.specs.Disks.{Keeps, Recovers, HasNoGap}
use Rattle.journal_files.specs.Faults.{HasReason}
use Rattle.journal_files.specs.Leftovers.{LeavesAtMost}
use Rattle.buffer_state.specs.State.{State}
use Rattle.buffer_store.specs.Buffers.{Held, durable_if}
use Rattle.buffer_store.specs.declared.settings.Settings.{Settings}
use Rattle.buffer_store.specs.declared.fault.BufferFault.{BufferFault}

-- the folder, the journal that is open in it, how the device has done since, and the folder as the
-- opening found it
pub record Logged (D : Type 0) : Type 0 where
  pub dir : D
  pub journal : OpenJournal
  pub failed : Bool
  pub staged : Bool
  pub start : D

-- the buffer of this log, these chunks and settings
abbrev pub held_of : {D : Type 0} → Logged D → State → Settings → Held D
held_of log chunks settings = record {
  dir = log.dir;
  journal = log.journal;
  chunks = chunks;
  limits = settings.limits;
  renewed_past = settings.renewed_past;
  failed = log.failed;
  staged = log.staged;
  start = log.start;
}

-- the journal is open until the device fails
abbrev pub IsGoing : {D : Type 0} → (D → FileNo → Option (List ℕ)) → Logged D → Type 0
IsGoing opened log = log.failed ≡ false → IsOpenIn log.journal (opened log.dir)

-- whether the record tells an append
abbrev pub is_append : Record → Bool
is_append (Seal next) = false
is_append (Append serial tag entries) = true
is_append (Queue serial) = false
is_append (Purge serial) = false

-- the disk has the journal so
abbrev pub KeepsNow : {D : Type 0} → (D → History) → Logged D → JournalLog → Type 0
KeepsNow history log t = Keeps log.journal (now (history log.dir)) t

-- The bytes of the entries of this chunk are read. Nothing but time changes.
pub record Reads {D A : Type 0} (is_honest : D → Type 0) (history : D → History)
    (fault_count : D → ℕ) (old new : Logged D) (serial : ℕ)
    (result : Result (Vec ℕ A) BufferFault) : Type 0 where
  pub rest : new ≡ record old { dir = new.dir }
  pub only : OnErr result ((result ≡ Err BufferFault.Memory)
      ⊎ ((result ≡ Err BufferFault.Fault) ⊎ (result ≡ Err BufferFault.Damaged)))
  pub honest : is_honest old.dir → is_honest new.dir
  pub time : is_honest old.dir → Elapses (history old.dir) (history new.dir)
  pub same : is_honest old.dir → SameDisk (now (history new.dir)) (now (history old.dir))
  pub cause : HasReason (fault_count old.dir) (fault_count new.dir) result BufferFault.Fault
  pub bytes : is_honest old.dir → (t : JournalLog) → KeepsNow history old t
      → IfOk result (λ bytes. bytes.items ≡ entries_at (state_of t) serial)
  pub whole : is_honest old.dir → (t : JournalLog) → KeepsNow history old t
      → result ≢ Err BufferFault.Damaged

-- how a call leaves the failed flag: it rises with a `Fault`, and stays at all else
pub record Flags {T : Type 0} (old new : Bool) (result : Result T BufferFault) : Type 0 where
  pub fails : result ≡ Err BufferFault.Fault → new ≡ true
  pub stays : result ≢ Err BufferFault.Fault → new ≡ old

-- One record more is told, and synced or not. The error is want of memory or the device's fault.
pub record Writes {D T : Type 0} (is_honest : D → Type 0) (history : D → History)
    (fault_count : D → ℕ) (old new : Logged D) (item : Record) (synced : Bool)
    (result : Result T BufferFault) : Type 0 where
  pub only : OnErr result ((result ≡ Err BufferFault.Memory) ⊎ (result ≡ Err BufferFault.Fault))
  pub flags : Flags old.failed new.failed result
  pub kept : OnErr result (new.staged ≡ old.staged)
  pub staged : OnOk result (new.staged ≡ cond synced false (is_append item || old.staged))
  pub path : new.journal.path ≡ old.journal.path
  pub number : new.journal.number ≡ old.journal.number
  pub start : new.start ≡ old.start
  pub honest : is_honest old.dir → is_honest new.dir
  pub elsewhere : is_honest old.dir → (name : List ℕ)
      → name ≢ journal_name old.journal.path old.journal.number → now (history new.dir) name
      ≡ now (history old.dir) name
  pub untouched : is_honest old.dir → result ≢ Err BufferFault.Fault
      → OnErr result (SameDisk (now (history new.dir)) (now (history old.dir)))
  pub cause : HasReason (fault_count old.dir) (fault_count new.dir) result BufferFault.Fault
  pub done : is_honest old.dir → (t : JournalLog) → KeepsNow history old t
      → Allows (state_of t) item
      → OnOk result (KeepsNow history new (durable_if synced (begun item t)))
  pub refused : is_honest old.dir → (t : JournalLog) → KeepsNow history old t
      → result ≢ Err BufferFault.Fault → OnErr result (KeepsNow history new t)
  pub recovers : is_honest old.dir → (t : JournalLog) → KeepsNow history old t
      → Allows (state_of t) item → result ≡ Err BufferFault.Fault
      → Recovers old.journal.path (now (history new.dir)) (begun item t)
  pub could : is_honest old.dir → (t : JournalLog) → KeepsNow history old t
      → Allows (state_of t) item → result ≡ Err BufferFault.Fault → IsJournalLog (begun item t)
  pub gap : is_honest old.dir → (t : JournalLog) → KeepsNow history old t → Allows (state_of t) item
      → result ≡ Err BufferFault.Fault → HasNoGap old.journal.path (now (history new.dir))
  pub moments : is_honest old.dir → (t : JournalLog) → KeepsNow history old t
      → Allows (state_of t) item
      → LeavesOnly (history old.dir) (history new.dir) (OpensWithin old.journal.path (begun item t))
  pub quiet : is_honest old.dir → (t : JournalLog) → KeepsNow history old t
      → result ≢ Err BufferFault.Fault
      → OnErr result (LeavesOnly (history old.dir) (history new.dir)
      (OpensWithin old.journal.path t))

-- All that was told is synced. The error is the device's fault.
pub record Syncs {D T : Type 0} (is_honest : D → Type 0) (history : D → History)
    (fault_count : D → ℕ) (old new : Logged D) (result : Result T BufferFault) : Type 0 where
  pub only : OnErr result (result ≡ Err BufferFault.Fault)
  pub flags : Flags old.failed new.failed result
  pub kept : OnErr result (new.staged ≡ old.staged)
  pub staged : OnOk result (new.staged ≡ false)
  pub journal : new.journal ≡ old.journal
  pub start : new.start ≡ old.start
  pub honest : is_honest old.dir → is_honest new.dir
  pub elsewhere : is_honest old.dir → (name : List ℕ)
      → name ≢ journal_name old.journal.path old.journal.number → now (history new.dir) name
      ≡ now (history old.dir) name
  pub cause : HasReason (fault_count old.dir) (fault_count new.dir) result BufferFault.Fault
  pub done : is_honest old.dir → (t : JournalLog) → KeepsNow history old t
      → OnOk result (KeepsNow history new (all_durable t))
  pub failed : is_honest old.dir → (t : JournalLog) → KeepsNow history old t
      → OnErr result (KeepsNow history new t)
  pub moments : is_honest old.dir → (t : JournalLog) → KeepsNow history old t
      → LeavesOnly (history old.dir) (history new.dir) (OpensWithin old.journal.path t)

-- The journal goes on in a new generation that tells these chunks.
pub record Renews {D T : Type 0} (is_honest : D → Type 0) (history : D → History)
    (fault_count : D → ℕ) (old new : Logged D) (chunks : State)
    (result : Result T BufferFault) : Type 0 where
  pub only : OnErr result ((result ≡ Err BufferFault.LastSerial)
      ⊎ ((result ≡ Err BufferFault.Memory)
      ⊎ ((result ≡ Err BufferFault.Fault) ⊎ (result ≡ Err BufferFault.Damaged))))
  pub last : (result ≡ Err BufferFault.LastSerial) ↔ (2 ^ 32 ≤ old.journal.number + 1)
  pub flags : Flags old.failed new.failed result
  pub kept : OnErr result (new.staged ≡ old.staged)
  pub staged : OnOk result (new.staged ≡ false)
  pub path : new.journal.path ≡ old.journal.path
  pub number : OnOk result (new.journal.number ≡ old.journal.number + 1)
  pub start : new.start ≡ old.start
  pub honest : is_honest old.dir → is_honest new.dir
  pub elsewhere : is_honest old.dir → (name : List ℕ)
      → name ≢ journal_name old.journal.path old.journal.number
      → name ≢ journal_name old.journal.path (old.journal.number + 1)
      → now (history new.dir) name ≡ now (history old.dir) name
  pub untouched : is_honest old.dir → result ≢ Err BufferFault.Fault
      → result ≢ Err BufferFault.Damaged
      → OnErr result (SameDisk (now (history new.dir)) (now (history old.dir)))
  pub cause : HasReason (fault_count old.dir) (fault_count new.dir) result BufferFault.Fault
  pub gone : is_honest old.dir
      → OnOk result (reads (now (history new.dir))
      (journal_name old.journal.path old.journal.number) ≡ None)
  pub journal : OnErr result (new.journal ≡ old.journal)
  pub starts : OnOk result (settled (state_of (new_generation chunks)) ≡ reopened chunks)
  pub done : is_honest old.dir → (t : JournalLog) → KeepsNow history old t
      → settled (state_of t) ≡ reopened chunks
      → OnOk result (KeepsNow history new (new_generation chunks))
  pub refused : is_honest old.dir → (t : JournalLog) → KeepsNow history old t
      → settled (state_of t) ≡ reopened chunks → result ≢ Err BufferFault.Fault
      → OnErr result (KeepsNow history new t)
  pub recovers : is_honest old.dir → (t : JournalLog) → KeepsNow history old t
      → settled (state_of t) ≡ reopened chunks → result ≡ Err BufferFault.Fault
      → Recovers old.journal.path (now (history new.dir)) t
  pub gap : is_honest old.dir → (t : JournalLog) → KeepsNow history old t
      → HasNoGap old.journal.path (now (history new.dir))
  pub moments : is_honest old.dir → (t : JournalLog) → KeepsNow history old t
      → settled (state_of t) ≡ reopened chunks
      → LeavesOnly (history old.dir) (history new.dir) (OpensWithin old.journal.path t)
  pub whole : is_honest old.dir → (t : JournalLog) → KeepsNow history old t
      → settled (state_of t) ≡ reopened chunks → result ≢ Err BufferFault.Damaged
  pub left : is_honest old.dir → (t : JournalLog) → KeepsNow history old t
      → settled (state_of t) ≡ reopened chunks
      → OnErr result (LeavesAtMost old.journal.path (old.journal.number + 1) (fault_count old.dir)
      (fault_count new.dir) (now (history old.dir)) (now (history new.dir)))
