-- What errors are printed as.
use Rattle.std.specs.Prelude.{ℕ, List, codes}
use Rattle.label_plan.specs.declared.error.DropError.{DropError}
use Rattle.label_plan.specs.declared.error.DropError.TheVariants as error
use Rattle.label_plan.specs.declared.error.DroppedPlanError.{DroppedPlanError}
use Rattle.label_plan.specs.declared.error.DroppedPlanError.TheVariants as dropped
use Rattle.plan_lines.specs.Printed.{error_text as plan_text}

-- a text that names no match
abbrev pub name_error_text : List ℕ
name_error_text = codes "not RELAY:SCOPE:INDEX"

-- what the name means isn't there, or `memory`
abbrev pub error_text : DropError → List ℕ
error_text (error.NoRelay at) = codes "no relay of the plan has this number"
error_text (error.NoScope at) = codes "the relay has no such scope"
error_text (error.NoMatch at) = codes "the scope has no match with this index"
error_text error.Memory = codes "memory"

-- the plan's own error, or that of a name
abbrev pub plan_error_text : DroppedPlanError → List ℕ
plan_error_text (dropped.Plan fault) = plan_text fault
plan_error_text (dropped.Drop why) = error_text why
