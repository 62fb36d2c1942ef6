-- The parts of a step's rule by themselves.
use Rattle.step_lines.specs.declared.step.Step.{Step}
use Rattle.relay_net.specs.Network.{Network}
use Rattle.custody_steps.specs.Steps.{rule_of_step}
use Rattle.custody_steps.specs.World.{World}

-- Everything that the step names is there.
abbrev pub Names : {A : Type 0} → Network A → World → Step A → Type 0
Names net w s = (rule_of_step net w s).names

-- What the step asks for holds.
abbrev pub Allowed : {A : Type 0} → Network A → World → Step A → Type 0
Allowed net w s = (rule_of_step net w s).allowed

-- the world after the step
abbrev pub effect : {A : Type 0} → Network A → World → Step A → World
effect net w s = (rule_of_step net w s).after
