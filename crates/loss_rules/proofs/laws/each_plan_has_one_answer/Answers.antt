use Rattle.loss_rules.proofs.OneAnswer.{one_answer}
use Rattle.loss_rules.proofs.laws.each_plan_has_one_answer.Goals as goal

pub returns : goal.returns
returns g c = one_answer
