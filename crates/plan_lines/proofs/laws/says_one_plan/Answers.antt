use Rattle.plan_lines.proofs.OnePlan.{says_one_plan}
use Rattle.plan_lines.proofs.laws.says_one_plan.Goals as goal

pub returns : goal.returns
returns g c = says_one_plan _ _
