-- What the type of a buffer keeps of the disk, whatever calls are made: over a folder that was
-- honest when the buffer was opened.
use Rattle.std.specs.Prelude.{ℕ, ◌≡◌, ◌⊎◌, ◌<◌, ◌≤◌, Bool, true, false, List, length, drop, Option, Some, None, IfSome}
use Rattle.std.specs.List.{AllByRecursion}
use Rattle.disk_files.specs.Disk.{Folder, StopLeaves}
use Rattle.disk_files.specs.Moments.{History, LeavesOnly, now}
use Rattle.event_modes.specs.Message.{longest_tag}
use Rattle.buffer_state.specs.State.{Chunk, State, chunk_at}
use Rattle.buffer_state.specs.Steps.{settled, reopened}
use Rattle.buffer_state.specs.declared.chunk.Stage.TheVariants.{Queued}
use Rattle.chunk_journal.specs.Records.{Record, Append, Purge}
use Rattle.journal_files.specs.Folders.{Opens}
use Rattle.journal_files.specs.JournalLogs.{JournalLog, IsJournalLog, state_of, reopened_at}
use Rattle.journal_files.specs.Disks.{Recovers, HasNoGap}
use Rattle.buffer_store.specs.Buffers.{Held, HoldsNow, with_more}

-- A stop may lose this step: a removal at any time, an append only while some append isn't synced,
-- and nothing else ever.
abbrev pub MayBeLost : Bool → Record → Type 0
MayBeLost staged (Append serial tag entries) = staged ≡ true
MayBeLost staged (Purge serial) = Unit {0}
MayBeLost staged _ = ⊥

-- each step told that isn't durable is one that a stop may lose
abbrev pub LosesOnly : Bool → JournalLog → Type 0
LosesOnly staged t = AllByRecursion (MayBeLost staged) (drop t.durable t.steps)

-- The folder is honest. The steps told mean the chunks, claimed ones counted as queued, and what a
-- stop may lose of them is only what may be lost. Until the device fails the buffer, the disk has
-- its journal so. The call that it failed in had begun one step more, or none: from then on each
-- stop leaves the steps that can't be lost, with that one or without it, and no gap of removed
-- generations is left, so that the folder can be opened at once.
pub record IsDurable {D : Type 0} (is_honest : D → Type 0) (history : D → History)
    (buffer : Held D) : Type 0 where
  pub honest : is_honest buffer.dir
  pub logged : JournalLog
  pub more : Option Record
  pub told : IsJournalLog logged
  pub could : IsJournalLog (with_more more logged)
  pub means : settled (state_of logged) ≡ reopened buffer.chunks
  pub loses : LosesOnly buffer.staged logged
  pub going : buffer.failed ≡ false → HoldsNow history buffer logged
  pub recovers : buffer.failed ≡ true
      → Recovers buffer.journal.path (now (history buffer.dir)) (with_more more logged)
  pub gap : buffer.failed ≡ true → HasNoGap buffer.journal.path (now (history buffer.dir))

-- the folder was honest when the buffer was opened, and the generations that were removed of it
-- left no gap
abbrev pub BeganWell : {D : Type 0} → (D → Type 0) → (D → History) → Held D → Type 0
BeganWell is_honest history buffer = is_honest buffer.start
    × HasNoGap buffer.journal.path (now (history buffer.start))

-- What every buffer keeps: no tag is too long, and it is durable where it began well.
pub record IsSound {D : Type 0} (is_honest : D → Type 0) (history : D → History)
    (buffer : Held D) : Type 0 where
  pub tags : AllByRecursion (λ numbered. length numbered.1.tag ≤ longest_tag) buffer.chunks.chunks
  pub durable : BeganWell is_honest history buffer → IsDurable is_honest history buffer

-- the state after the steps that each stop leaves, as opening gives it
abbrev pub durably : JournalLog → State
durably t = reopened_at t t.durable

-- In this state the chunk of this serial is queued with this content, or gone, and the serial is
-- given to no other.
abbrev pub IsNamed : ℕ → Chunk → State → Type 0
IsNamed serial chunk state = (serial < state.next)
    × ((chunk_at state serial ≡ Some (record chunk { stage = Queued }))
    ⊎ (chunk_at state serial ≡ None))

-- the folder opens to a state in which it is so
pub record Lasts (path : List ℕ) (serial : ℕ) (chunk : Chunk) (folder : Folder) : Type 0 where
  pub state : State
  pub opens : Opens path folder state
  pub named : IsNamed serial chunk state

-- A chunk of this serial and content was claimed: the journal tells so much, durably, that whatever
-- a stop leaves opens to a state in which it is queued as it was, or gone.
pub record Endures {D : Type 0} (history : D → History) (buffer : Held D) (serial : ℕ)
    (chunk : Chunk) : Type 0 where
  pub logged : JournalLog
  pub told : IsJournalLog logged
  pub named : IsNamed serial chunk (durably logged)
  pub going : buffer.failed ≡ false → HoldsNow history buffer logged
  pub failed : buffer.failed ≡ true → Recovers buffer.journal.path (now (history buffer.dir)) logged

-- What a call leaves of each chunk that was claimed before it: at each moment of the call a stop
-- leaves it queued as it was, or gone, and its serial is given to no other; and so it stays behind
-- the call.
pub record KeepsClaims {D : Type 0} (history : D → History) (old new : Held D) : Type 0 where
  pub moments : (serial : ℕ) (chunk : Chunk) → Endures history old serial chunk
      → LeavesOnly (history old.dir) (history new.dir) (Lasts old.journal.path serial chunk)
  pub after : (serial : ℕ) (chunk : Chunk) → Endures history old serial chunk
      → Endures history new serial chunk

-- whatever a stop leaves opens to a state above this serial, with its chunk queued as it is, or
-- gone
abbrev pub LastsNow : {D : Type 0} → (D → History) → Held D → ℕ → Type 0
LastsNow history buffer serial = IfSome (chunk_at buffer.chunks serial)
    (λ chunk. (folder : Folder) → StopLeaves (now (history buffer.dir)) folder
    → Lasts buffer.journal.path serial chunk folder)
