use Rattle.plan_lines.proofs.OnePlan.{has_one_fault}
use Rattle.plan_lines.proofs.laws.has_one_fault.Goals as goal

pub returns : goal.returns
returns g c = has_one_fault _ _
