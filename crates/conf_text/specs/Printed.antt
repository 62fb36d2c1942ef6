-- What a fault is printed as.
use Rattle.std.specs.Prelude.{ℕ, List, ◌++◌, codes}
use Rattle.std.specs.Fmt.{decimal}
use Rattle.conf_text.specs.declared.fault.FaultKind.{FaultKind}
use Rattle.conf_text.specs.declared.fault.FaultKind.TheVariants as kinds
use Rattle.conf_text.specs.declared.fault.ConfFault.{ConfFault}
use Rattle.conf_text.specs.declared.fault.ConfError.{ConfError}
use Rattle.conf_text.specs.declared.fault.ConfError.TheVariants as errors

-- the code of a kind of fault
abbrev pub fault_code : FaultKind → List ℕ
fault_code kinds.OpenSection = codes "C1"
fault_code kinds.WrongEnd = codes "C2"
fault_code kinds.BadQuote = codes "C3"
fault_code kinds.BadName = codes "C4"
fault_code kinds.NotUtf8 = codes "C5"
fault_code kinds.TooDeep = codes "C6"

-- as `C1 line 3`
abbrev pub fault_text : ConfFault → List ℕ
fault_text f = fault_code f.kind ++ codes " line " ++ decimal f.line

-- a fault, or `memory`
abbrev pub error_text : ConfError → List ℕ
error_text errors.Memory = codes "memory"
error_text (errors.Fault f) = fault_text f
