-- What a fault is printed as.
use Rattle.std.specs.Prelude.{ℕ, List, ◌++◌, codes}
use Rattle.std.specs.Fmt.{decimal}
use Rattle.relay_conf.specs.declared.fault.RelayFaultKind.{RelayFaultKind}
use Rattle.relay_conf.specs.declared.fault.RelayFaultKind.TheVariants as kinds
use Rattle.relay_conf.specs.declared.fault.RelayFault.{RelayFault}
use Rattle.relay_conf.specs.declared.fault.RelayError.{RelayError}
use Rattle.relay_conf.specs.declared.fault.RelayError.TheVariants as errors

-- the code of a kind of fault
abbrev pub fault_code : RelayFaultKind → List ℕ
fault_code kinds.UnknownSection = codes "G1"
fault_code kinds.UnknownParameter = codes "G2"
fault_code kinds.BadValue = codes "G3"
fault_code kinds.Missing = codes "G4"
fault_code kinds.OutOfProfile = codes "G5"
fault_code kinds.NoSuchLabel = codes "G6"
fault_code kinds.DoubleName = codes "G7"

-- as `G3 line 3`
abbrev pub fault_text : RelayFault → List ℕ
fault_text f = fault_code f.kind ++ codes " line " ++ decimal f.line

-- a fault, or `memory`
abbrev pub error_text : RelayError → List ℕ
error_text errors.Memory = codes "memory"
error_text (errors.Fault f) = fault_text f
