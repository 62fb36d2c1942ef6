-- A file of a folder in memory.
use Rattle.std.specs.Prelude.{ℕ, Bool, List}
use Rattle.disk_files.specs.Disk.{File}

-- its name, what was written to it and what of it is certainly kept, for how many more bytes there
-- is room, and whether it is open
pub record Entry : Type 0 where
  pub name : List ℕ
  pub state : File
  pub room : ℕ
  pub is_open : Bool
