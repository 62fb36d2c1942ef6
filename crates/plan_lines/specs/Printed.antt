-- What a fault of a plan is printed as.
use Rattle.std.specs.Prelude.{ℕ, List, ◌++◌, codes}
use Rattle.std.specs.Fmt.{decimal}
use Rattle.conf_text.specs.Printed.{fault_text as conf_fault_text}
use Rattle.relay_conf.specs.Printed.{fault_text as relay_fault_text}
use Rattle.plan_lines.specs.declared.error.PlanError.{PlanError}
use Rattle.plan_lines.specs.declared.error.PlanError.TheVariants as errors

-- a code and a line, as `N1 line 3`
abbrev pub coded : List ℕ → ℕ → List ℕ
coded code line = code ++ codes " line " ++ decimal line

-- a fault with its line, and behind it the fault of the configuration, if there is one; or `memory`
abbrev pub error_text : PlanError → List ℕ
error_text (errors.BadLine line) = coded (codes "N1") line
error_text (errors.BadNumber line) = coded (codes "N2") line
error_text (errors.BadPattern line) = coded (codes "N3") line
error_text (errors.NoSuch line) = coded (codes "N4") line
error_text (errors.BadText line fault) = coded (codes "N5") line ++ codes " "
    ++ conf_fault_text fault
error_text (errors.BadRelay line fault) = coded (codes "N5") line ++ codes " "
    ++ relay_fault_text fault
error_text errors.Memory = codes "memory"
