-- Why a call of a journal fails.
use Rattle.std.specs.Prelude.{ℕ, ◌≡◌, ◌⊎◌, ◌+◌, ◌-◌, ◌^◌, ◌≤◌, Result, OnOk, IsErrOf}
use Rattle.disk_files.specs.Faults.{Rises}
use Rattle.disk_files.specs.declared.dir.DirError.{DirError}
use Rattle.disk_files.specs.declared.dir.DirError.TheVariants as dir
use Rattle.journal_files.specs.declared.error.JournalError.{JournalError}
use Rattle.journal_files.specs.declared.error.JournalError.TheVariants as refusal
use Rattle.file_pieces.specs.declared.error.PieceError.{PieceError}
use Rattle.file_pieces.specs.declared.error.PieceError.TheVariants as piece

-- The count of the device's refusals rises where the call answers so, and at no other answer.
pub record HasReason {T E : Type 0} (before after : ℕ) (result : Result T E)
    (fault : E) : Type 0 where
  pub later : before ≤ after
  pub passed : OnOk result (after ≡ before)
  pub failed : IsErrOf result fault → Rises before after
  pub others : (IsErrOf result fault → ⊥) → after ≡ before

-- what a folder's refusal is answered as: any but for want of memory is the device's
abbrev pub dir_error : DirError → JournalError
dir_error dir.Memory = refusal.Memory
dir_error dir.Fault = refusal.Fault
dir_error dir.NoSuchFile = refusal.Fault
dir_error dir.NameTaken = refusal.Fault

-- what a refused read of a file is answered as: one with fewer bytes than were told is damaged
abbrev pub piece_error : PieceError → JournalError
piece_error piece.Fault = refusal.Fault
piece_error piece.Short = refusal.Damaged
