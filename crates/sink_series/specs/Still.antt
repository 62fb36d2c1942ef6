-- Calls that leave the disk as it was.
use Rattle.disk_files.specs.Disk.{SameDisk}
use Rattle.disk_files.specs.Moments.{History, Elapses, now}

-- time went on, and the disk stayed as it was
pub record IsStill (old new : History) : Type 0 where
  pub time : Elapses old new
  pub same : SameDisk (now new) (now old)
