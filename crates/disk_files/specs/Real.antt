-- The open files of a real folder, of whose bytes nothing is known.
use Rattle.std.specs.Prelude.{ℕ, List, Option, Some, None}
use Rattle.disk_files.specs.Moments.{History}
use Rattle.disk_files.specs.declared.real.OpenFile.{OpenFile}

-- the name of the file at a place
abbrev pub open_name : {F A : Type 0} → Option (Option (OpenFile F A)) → Option (List ℕ)
open_name None = None
open_name (Some None) = None
open_name (Some (Some f)) = Some f.name

-- no history
abbrev pub unknown : History
unknown = record { moment = 0; disk_at = λ t name. None }
