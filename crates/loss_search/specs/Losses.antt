-- What it is that steps lose an event.
use Rattle.std.specs.Prelude.{ℕ, List, Contains}
use Rattle.custody_core.specs.Custody.{IsKeptAs}
use Rattle.custody_steps.specs.Steps.{Steps}
use Rattle.custody_steps.specs.World.{World, initial_world}
use Rattle.loss_rules.specs.declared.label.Duty.{Duty}
use Rattle.custody_store.specs.Book.{Told}
use Rattle.relay_net.specs.Network.{Network}
use Rattle.step_lines.specs.StepLines.{SayAll}
use Rattle.step_lines.specs.declared.step.Step.{Step}
use Rattle.text_lines.specs.Lines.{text_lines}

-- An event was acknowledged to a client, and isn't kept as the plan asks.
pub record HasLost {A : Type 0} (asked : Duty) (net : Network A) (w : World) : Type 0 where
  pub told : Told
  pub is_acknowledged : Contains w.acknowledged told
  pub is_lost : ¬ IsKeptAs asked net w told

-- The network takes each of the steps, from before its first one, and has lost an acknowledged
-- event then.
pub record Loses {A : Type 0} (asked : Duty) (net : Network A)
    (steps : List (Step A)) : Type 0 where
  pub world : World
  pub taken : Steps net initial_world steps world
  pub lost : HasLost asked net world

-- The lines of the text say such steps.
pub record IsLosingText {A : Type 0} (asked : Duty) (net : Network A) (text : List ℕ) : Type 0 where
  pub steps : List (Step A)
  pub said : SayAll (text_lines text) steps
  pub loses : Loses asked net steps
