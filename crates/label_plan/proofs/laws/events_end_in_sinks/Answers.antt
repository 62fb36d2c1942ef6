use Rattle.label_plan.proofs.Ends.{ends_there}
use Rattle.label_plan.proofs.laws.events_end_in_sinks.Goals as goal

pub returns : goal.returns
returns g c = λ net distinct place scope rule e tag first. ends_there net distinct place scope rule e tag first
