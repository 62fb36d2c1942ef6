-- When a sink's files answer a fault.
use Rattle.std.specs.Prelude.{ℕ, ◌≤◌, Result, IsErrOf}
use Rattle.disk_files.specs.Faults.{Rises}
use Rattle.disk_files.specs.declared.dir.DirError.{DirError}
use Rattle.disk_files.specs.declared.dir.DirError.TheVariants as dir
use Rattle.sink_series.specs.declared.fault.SeriesFault.{SeriesFault}
use Rattle.sink_series.specs.declared.fault.SeriesFault.TheVariants as series

-- what a refusal of the folder is answered as
abbrev pub fault_of : DirError → SeriesFault
fault_of dir.Memory = series.Memory
fault_of dir.Fault = series.Fault
fault_of dir.NoSuchFile = series.Fault
fault_of dir.NameTaken = series.Fault

-- `Fault` is answered only where the folder counted a refusal.
pub record HasCause {T : Type 0} (before after : ℕ) (result : Result T SeriesFault) : Type 0 where
  pub later : before ≤ after
  pub failed : IsErrOf result series.Fault → Rises before after
