use Rattle.plan_lines.proofs.OnePlan.{is_plan_or_fault}
use Rattle.plan_lines.proofs.laws.is_plan_or_fault.Goals as goal

pub returns : goal.returns
returns g c = is_plan_or_fault _ _
