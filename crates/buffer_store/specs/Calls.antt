-- What the calls of a buffer have in common.
use Rattle.std.specs.Prelude.{ℕ, ◌≡◌, ◌≢◌, ◌↔◌, ◌⊎◌, ◌+◌, true, List, Option, None, Result, OnOk, OnErr, Err}
use Rattle.disk_files.specs.Disk.{SameDisk, reads}
use Rattle.disk_files.specs.Moments.{History, Passes, LeavesOnly, now}
use Rattle.chunk_journal.specs.Records.{Record}
use Rattle.journal_files.specs.Folders.{journal_name, OpensWithin}
use Rattle.journal_files.specs.JournalLogs.{JournalLog, IsJournalLog}
use Rattle.journal_files.specs.Disks.{Recovers, HasNoGap}
use Rattle.journal_files.specs.Faults.{HasReason}
use Rattle.journal_files.specs.Leftovers.{LeavesAtMost}
use Rattle.buffer_store.specs.Buffers.{Held, HoldsNow, with_more}
use Rattle.buffer_store.specs.Durability.{BeganWell, KeepsClaims}
use Rattle.buffer_store.specs.declared.fault.BufferFault.{BufferFault}

-- What each call that writes leaves alone. A refusal keeps the chunks, and but for a fault or
-- damage the folder too; a buffer that the device failed before refuses the call.
pub record Stays {D T : Type 0} (is_honest : D → Type 0) (history : D → History)
    (fault_count : D → ℕ) (old new : Held D) (result : Result T BufferFault) : Type 0 where
  pub err : OnErr result (new.chunks ≡ old.chunks)
  pub failed : (result ≡ Err BufferFault.Failed) ↔ (old.failed ≡ true)
  pub flags : (new.failed ≡ true) ↔ ((old.failed ≡ true) ⊎ (result ≡ Err BufferFault.Fault))
  pub staged : OnErr result (new.staged ≡ old.staged)
  pub limits : new.limits ≡ old.limits
  pub renewed_past : new.renewed_past ≡ old.renewed_past
  pub path : new.journal.path ≡ old.journal.path
  pub start : new.start ≡ old.start
  pub honest : is_honest old.dir → is_honest new.dir
  pub untouched : is_honest old.dir → result ≢ Err BufferFault.Fault
      → result ≢ Err BufferFault.Damaged
      → OnErr result (SameDisk (now (history new.dir)) (now (history old.dir)))
  pub cause : HasReason (fault_count old.dir) (fault_count new.dir) result BufferFault.Fault

-- the same of a call that stays within the generation: it keeps the files of all other names too
pub record StaysWithin {D T : Type 0} (is_honest : D → Type 0) (history : D → History)
    (fault_count : D → ℕ) (old new : Held D) (result : Result T BufferFault) : Type 0 where
  pub rest : Stays is_honest history fault_count old new result
  pub number : new.journal.number ≡ old.journal.number
  pub elsewhere : is_honest old.dir → (name : List ℕ)
      → name ≢ journal_name old.journal.path old.journal.number → now (history new.dir) name
      ≡ now (history old.dir) name

-- What a call makes of what the journal tells, where it begins this step, or none. After `Ok` the
-- journal tells what is answered. After `Fault` each stop leaves the steps told before, with the
-- one begun or without it, and no gap of removed generations. After any other refusal the journal
-- tells what it told. A stop at any moment of the call, whatever it answers, leaves a folder that
-- opens to the state after some of these steps, all durable ones among them; and of a buffer that
-- the device failed before one that opens to what it could open to before the call. So it is with
-- the chunks that were ever claimed.
pub record Begins {D T : Type 0} (history : D → History) (old new : Held D) (more : Option Record)
    (answered : JournalLog → JournalLog) (result : Result T BufferFault) : Type 0 where
  pub done : (t : JournalLog) → HoldsNow history old t
      → OnOk result (HoldsNow history new (answered (with_more more t)))
  pub refused : (t : JournalLog) → HoldsNow history old t → result ≢ Err BufferFault.Fault
      → OnErr result (HoldsNow history new t)
  pub recovers : (t : JournalLog) → HoldsNow history old t → result ≡ Err BufferFault.Fault
      → Recovers old.journal.path (now (history new.dir)) (with_more more t)
  pub could : (t : JournalLog) → HoldsNow history old t → result ≡ Err BufferFault.Fault
      → IsJournalLog (with_more more t)
  pub gap : (t : JournalLog) → HoldsNow history old t → result ≡ Err BufferFault.Fault
      → HasNoGap old.journal.path (now (history new.dir))
  pub moments : (t : JournalLog) → HoldsNow history old t
      → LeavesOnly (history old.dir) (history new.dir)
      (OpensWithin old.journal.path (with_more more t))
  pub quiet : (t : JournalLog) → HoldsNow history old t → result ≢ Err BufferFault.Fault
      → OnErr result (LeavesOnly (history old.dir) (history new.dir)
      (OpensWithin old.journal.path t))
  pub failed : old.failed ≡ true → (t : JournalLog)
      → Recovers old.journal.path (now (history old.dir)) t
      → LeavesOnly (history old.dir) (history new.dir) (OpensWithin old.journal.path t)
  pub claims : KeepsClaims history old new

-- What a call that only reads leaves alone: the buffer, what the disk has at each moment, and each
-- chunk that was claimed. Time goes on, and the device may refuse.
pub record OnlyReads {D T : Type 0} (is_honest : D → Type 0) (history : D → History)
    (fault_count : D → ℕ) (old new : Held D) (result : Result T BufferFault) : Type 0 where
  pub rest : new ≡ record old { dir = new.dir }
  pub honest : is_honest old.dir → is_honest new.dir
  pub same : is_honest old.dir
      → Passes (history old.dir) (history new.dir) (SameDisk (now (history old.dir)))
  pub claims : is_honest old.dir → KeepsClaims history old new
  pub cause : HasReason (fault_count old.dir) (fault_count new.dir) result BufferFault.Fault

-- What a renewal makes of the journal's files. Done, the next generation is the open one, and the
-- older one's file is gone. Refused, the open one is as it was, and of the next no more is left
-- than the device's failures leave. Files of other names stay as they are.
pub record NextGeneration {D T : Type 0} (is_honest : D → Type 0) (history : D → History)
    (fault_count : D → ℕ) (old new : Held D) (result : Result T BufferFault) : Type 0 where
  pub number : OnOk result (new.journal.number ≡ old.journal.number + 1)
  pub gone : is_honest old.dir
      → OnOk result (reads (now (history new.dir))
      (journal_name old.journal.path old.journal.number) ≡ None)
  pub journal : OnErr result (new.journal ≡ old.journal)
  pub left : BeganWell is_honest history old
      → OnErr result (LeavesAtMost old.journal.path (old.journal.number + 1)
      (fault_count old.dir) (fault_count new.dir) (now (history old.dir)) (now (history new.dir)))
  pub elsewhere : is_honest old.dir → (name : List ℕ)
      → name ≢ journal_name old.journal.path old.journal.number
      → name ≢ journal_name old.journal.path (old.journal.number + 1)
      → now (history new.dir) name ≡ now (history old.dir) name
