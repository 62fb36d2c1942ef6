-- What opening a buffer gives, and why it is refused.
use Rattle.std.specs.Prelude.{ℕ, ◌≡◌, false, List}
use Rattle.disk_files.specs.Disk.{Disk}
use Rattle.journal_files.specs.Openings.{IsRefused}
use Rattle.journal_files.specs.declared.error.JournalError.{JournalError}
use Rattle.buffer_store.specs.Buffers.{Held}
use Rattle.buffer_store.specs.Refusals.{of_journal}
use Rattle.buffer_store.specs.declared.fault.BufferFault.{BufferFault}
use Rattle.buffer_store.specs.declared.settings.Settings.{Settings}

-- a buffer just opened over this folder is as its settings say; nothing has failed, and nothing
-- is to be synced
pub record IsSet {D : Type 0} (dir : D) (settings : Settings) (buffer : Held D) : Type 0 where
  pub start : buffer.start ≡ dir
  pub limits : buffer.limits ≡ settings.limits
  pub renewed_past : buffer.renewed_past ≡ settings.renewed_past
  pub going : buffer.failed ≡ false
  pub synced : buffer.staged ≡ false

-- A refusal is one of the journal's, under the buffer's name for it. Over an honest folder it has
-- that one's reasons, and leaves what that one leaves.
pub record RefusesOpening (honest : Type 0) (path : List ℕ) (faults new_faults : ℕ)
    (old new : Disk) (refused : BufferFault) : Type 0 where
  pub its : JournalError
  pub named : refused ≡ of_journal its
  pub why : honest → IsRefused path faults new_faults old new its
