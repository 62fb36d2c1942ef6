use Rattle.std.proofs.Common.{refl}
use Rattle.custody_steps.proofs.world.World.is_kept.Goals as goal

pub returns-then-branch : goal.returns-then-branch
returns-then-branch g c = (λ _. c.in_ok-is_found.ensures c.if-branch.true, λ _. refl)
