-- From what stops to what `label` prints.
use Rattle.std.proofs.Common.{ℕ, List, refl, inr}
use Rattle.std.specs.Prelude.{Option}
use Rattle.program_text.specs.declared.plan_text.PlanStop.{PlanStop}
use Rattle.program_text.specs.Plans.{IsPlanStop, PrintsPlanStop}
use Rattle.plan_answers.proofs.NetworkSteps.{stop_said}
use Rattle.program_text.specs.declared.status.Status.{Status}
use Rattle.program_text.specs.declared.status.Status.TheVariants.{Usage}
use Rattle.relayctl.specs.Labels.{PrintsLabels}

-- what stops is printed
pub stopped_labels : (A : Type 0) (net : Option (List ℕ)) (named : List ℕ → Option (List ℕ)) (old new : Option (List ℕ)) (stopped : PlanStop) (status : Status)
    → IsPlanStop A net named stopped → PrintsPlanStop stopped old new status → PrintsLabels A net named old new status
stopped_labels A net named old new stopped status of prints = record {
  lines = prints.lines;
  meant = Usage;
  labels = inr (stop_said A net named stopped prints.lines of prints.said, refl);
  printed = prints.printed;
}
