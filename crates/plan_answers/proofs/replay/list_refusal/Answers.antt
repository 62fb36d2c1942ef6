use Rattle.std.proofs.Common.{refl, rules}
use Rattle.plan_answers.proofs.replay.list_refusal.Goals as goal

pub returns : goal.returns
returns g c = (c.in-Some.code.now, c.in-Some.ensures, search rules, refl)
