-- What a stop at any moment may leave. Time is a list of disks: the disk at each moment up to now.
use Rattle.std.specs.Prelude.{ℕ, ◌<◌, ◌≤◌}
use Rattle.disk_files.specs.Disk.{Disk, Folder, SameDisk, StopLeaves}

-- the moment, as a number, and the disk at each moment up to it
pub record History : Type 0 where
  pub moment : ℕ
  pub disk_at : ℕ → Disk

-- the disk as it is
abbrev pub now : History → Disk
now h = h.disk_at h.moment

-- Time goes on over a call: the past stays as it was, and at each new moment the disk is as the
-- call leaves it.
pub record Elapses (old new : History) : Type 0 where
  pub later : old.moment ≤ new.moment
  pub past : (t : ℕ) → t ≤ old.moment → SameDisk (new.disk_at t) (old.disk_at t)
  pub since : (t : ℕ) → old.moment < t → t ≤ new.moment → SameDisk (new.disk_at t) (now new)

-- The same, where what is said of the disk is P, of each moment from old's on.
pub record Passes (old new : History) (P : Disk → Type 0) : Type 0 where
  pub later : old.moment ≤ new.moment
  pub past : (t : ℕ) → t ≤ old.moment → SameDisk (new.disk_at t) (old.disk_at t)
  pub each : (t : ℕ) → old.moment ≤ t → t ≤ new.moment → P (new.disk_at t)

-- A stop at any moment since old, that moment among them, leaves a folder with P.
abbrev pub LeavesOnly : History → History → (Folder → Type 0) → Type 0
LeavesOnly old new P = Passes old new (λ disk. (folder : Folder) → StopLeaves disk folder
    → P folder)
