use Rattle.label_plan.proofs.Ends.{does_duty}
use Rattle.label_plan.proofs.laws.dropped_matches_do.Goals as goal

pub returns : goal.returns
returns g c = λ net place scope rule e found is asked. does_duty net place scope rule e found is asked
