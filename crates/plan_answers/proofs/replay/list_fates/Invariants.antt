use Rattle.plan_answers.proofs.Fates.{AreListedTo}
use Rattle.custody_steps.specs.WorldOf.{net_of}
use Rattle.plan_answers.proofs.replay.list_fates.Given as goal

abbrev pub invariant-loop-number : goal.invariant-loop-number
invariant-loop-number g l = AreListedTo l.duty (net_of l.fn.world) l.fn.world.shown.world l.events l.number l.lines.items l.lost
