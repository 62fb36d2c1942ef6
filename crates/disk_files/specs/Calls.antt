-- What calls on a folder have in common.
use Rattle.std.specs.Prelude.{◌≡◌, ℕ, Bool, Result}
use Rattle.disk_files.specs.Disk.{SameDisk}
use Rattle.disk_files.specs.Moments.{History, Elapses, now}
use Rattle.disk_files.specs.Faults.{HasCause, FailsInTurn}
use Rattle.disk_files.specs.declared.dir.DirError.{DirError}

-- The call asks the device. An honest folder stays honest, and time goes on; refusals are counted,
-- and the device fails the call exactly if it was to.
pub record CallsDevice {D T : Type 0} (is_honest : D → Type 0) (history : D → History)
    (fails_after : D → ℕ → Bool) (fault_count : D → ℕ) (old new : D)
    (result : Result T DirError) : Type 0 where
  pub honest : is_honest old → is_honest new
  pub time : is_honest old → Elapses (history old) (history new)
  pub cause : HasCause (fault_count old) (fault_count new) result
  pub fault : is_honest old → FailsInTurn (fails_after old) (fails_after new) result

-- The call leaves the disk as it was, and doesn't ask the device. An honest folder stays honest.
pub record LeavesAlone {D : Type 0} (is_honest : D → Type 0) (history : D → History)
    (fault_count : D → ℕ) (old new : D) : Type 0 where
  pub honest : is_honest old → is_honest new
  pub time : is_honest old → Elapses (history old) (history new)
  pub same : is_honest old → SameDisk (now (history new)) (now (history old))
  pub cause : fault_count new ≡ fault_count old
