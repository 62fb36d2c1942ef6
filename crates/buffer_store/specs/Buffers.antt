-- What contracts see of a buffer, and how its journal tells its chunks.
use Rattle.std.specs.Prelude.{ℕ, ◌≡◌, Bool, Option, Some, None, cond}
use Rattle.disk_files.specs.Moments.{History, now}
use Rattle.buffer_state.specs.declared.limits.Limits.{Limits}
use Rattle.buffer_state.specs.State.{State}
use Rattle.buffer_state.specs.Steps.{settled, reopened}
use Rattle.chunk_journal.specs.Records.{Record}
use Rattle.journal_files.specs.JournalLogs.{JournalLog, state_of, begun, all_durable}
use Rattle.journal_files.specs.Views.{OpenJournal}
use Rattle.journal_files.specs.Disks.{Keeps}

-- A buffer.
pub record Held (D : Type 0) : Type 0 where
  pub dir : D  -- the folder
  pub journal : OpenJournal  -- the journal that is open in it
  pub chunks : State  -- the chunks in memory
  pub limits : Limits  -- what it takes at most
  pub renewed_past : ℕ  -- how long a journal is never too long
  pub failed : Bool  -- whether the device has failed it
  pub staged : Bool  -- whether some append that was told isn't synced
  pub start : D  -- the folder as the opening found it

-- The disk has the journal of the buffer, whole, and it means the chunks in memory, claimed ones
-- counted as queued.
pub record HoldsNow {D : Type 0} (history : D → History) (buffer : Held D)
    (t : JournalLog) : Type 0 where
  pub keeps : Keeps buffer.journal (now (history buffer.dir)) t
  pub means : settled (state_of t) ≡ reopened buffer.chunks

-- these steps, and one more where a call began one
abbrev pub with_more : Option Record → JournalLog → JournalLog
with_more None t = t
with_more (Some item) t = begun item t

-- after a sync each stop leaves all steps
abbrev pub durable_if : Bool → JournalLog → JournalLog
durable_if synced t = cond synced (all_durable t) t
