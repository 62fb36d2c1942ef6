use Rattle.std.proofs.Common.{append_assoc}
use Rattle.plan_answers.proofs.replay.summary.Goals as goal

pub returns : goal.returns
returns g c = simp append_assoc c.format.ensures.ok
