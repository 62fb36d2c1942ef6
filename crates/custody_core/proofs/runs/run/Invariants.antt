use Rattle.std.proofs.Common.{◌≡◌, take}
use Rattle.custody_steps.specs.Steps.{Steps}
use Rattle.custody_steps.specs.World.{initial_world}
use Rattle.custody_steps.specs.WorldOf.{net_of}
use Rattle.custody_core.proofs.runs.run.Given as goal

abbrev pub invariant-loop-place : goal.invariant-loop-place
invariant-loop-place g l = (net_of l.world ≡ l.net) × Steps l.net initial_world (take l.place l.steps) l.world.shown.world
