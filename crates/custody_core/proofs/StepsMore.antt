-- Runs, step by step.
use Rattle.std.proofs.Common.{◌++◌, [], ◌∷◌, List, refl}
use Rattle.relay_net.specs.Network.{Network}
use Rattle.custody_steps.specs.Rules.{Names, Allowed, effect}
use Rattle.custody_steps.specs.Steps.{Steps}
use Rattle.custody_steps.specs.World.{World}
use Rattle.step_lines.specs.declared.step.Step.{Step}

-- one more step at the end
pub steps_more : {A : Type 0} (net : Network A) (before : World) (steps : List (Step A)) (at : World) (next : Step A) → Steps net before steps at → Names net at next → Allowed net at next → Steps net before (steps ++ next ∷ []) (effect net at next)
steps_more net before [] at next taken names allowed = rw (← taken) (names, allowed, refl)
steps_more net before (first ∷ steps) at next taken names allowed = (taken.0, taken.1, steps_more net (effect net before first) steps at next taken.2 names allowed)
