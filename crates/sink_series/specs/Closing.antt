-- What the end of a sink's file leaves of the files that are open.
use Rattle.std.specs.Prelude.{◌≡◌, ◌≢◌, ℕ, List, Option, Some, None}
use Rattle.disk_files.specs.declared.dir.FileNo.{FileNo}

-- The file that was open under this name is closed, and of the others those are open that were.
pub record Closes {D : Type 0} (opened : D → FileNo → Option (List ℕ)) (name : List ℕ)
    (old new : D) : Type 0 where
  pub file : FileNo
  pub was : opened old file ≡ Some name
  pub closed : opened new file ≡ None
  pub others : (other : FileNo) → other ≢ file → opened new other ≡ opened old other
