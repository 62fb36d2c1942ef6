-- From steps that were run in the network of a plan to what is said of the text that they come
-- from.
use Rattle.std.proofs.Common.{◌≡◌, refl, Result, ℕ, List, length}
use Rattle.std.specs.Prelude.{IfOk}
use Rattle.std.proofs.lemmas.Result.{IfOk-weaker}
use Rattle.custody_core.specs.Custody.{EachBranchKeeps, NothingIsLost, NothingIsMadeUp}
use Rattle.custody_steps.specs.Steps.{Steps}
use Rattle.custody_steps.specs.World.{World, initial_world}
use Rattle.loss_rules.specs.Breaks.{Subject, IsAnswer, AreKeepingRulesKept}
use Rattle.loss_rules.specs.Sites.{BuffersAreDistinct}
use Rattle.loss_rules.specs.declared.answer.Answer.{Answer}
use Rattle.loss_rules.specs.declared.answer.Answer.TheVariants as answer
use Rattle.loss_rules.specs.declared.label.Duty.TheVariants as duty
use Rattle.program_text.specs.declared.status.Status.{Status}
use Rattle.relay_net.specs.Network.{Network}
use Rattle.step_lines.specs.StepLines.{SayAll}
use Rattle.step_lines.specs.declared.step.Step.{Step}
use Rattle.text_lines.specs.Lines.{text_lines}
use Rattle.plan_answers.specs.Replays.{IsReplayed, lists_fates, IsWorldListing}

-- The steps lead to the world in the network, and this is known of it.
pub record IsRun {A : Type 0} (net : Network A) (steps : List (Step A)) (w : World) : Type 0 where
  pub taken : Steps net initial_world steps w
  pub made_up : NothingIsMadeUp net w
  pub lost : (s : Subject A) → s.net ≡ net → BuffersAreDistinct net → AreKeepingRulesKept s → NothingIsLost net w
  pub each : (s : Subject A) → s.net ≡ net → BuffersAreDistinct net → AreKeepingRulesKept s → s.duty ≡ duty.Every → EachBranchKeeps net w

-- under a yes the rules hold
yes_keeps : {A : Type 0} (plan : Subject A) (found : Answer) → IsAnswer plan found → found ≡ answer.Yes → AreKeepingRulesKept plan
yes_keeps plan answer.Yes all is = λ each not_addresses not_paths. all each
yes_keeps plan (answer.No broken at) broken_there is = absurd (cc)

-- what is listed of such a world is the listing of the text that says the steps
pub taken_listed : {A S E : Type 0} (plan : Subject A) (found : Answer) (text : List ℕ) (steps : List (Step A)) (w : World) (listed : Result S E) (lines : S → List ℕ) (status : S → Status)
    → SayAll (text_lines text) steps → IsRun plan.net steps w → BuffersAreDistinct plan.net → IsAnswer plan found
    → IfOk listed (λ said. IsWorldListing plan.duty plan.net w (length steps) (lines said) (status said)) → IfOk listed (λ said. IsReplayed plan found text (lines said) (status said))
taken_listed plan found text steps w listed lines status read ran distinct answered = IfOk-weaker listed
    (λ said. IsWorldListing plan.duty plan.net w (length steps) (lines said) (status said)) (λ said. IsReplayed plan found text (lines said) (status said))
    (λ said is. lists_fates (record {
      steps = steps;
      read = read;
      world = w;
      taken = ran.taken;
      nothing_is_made_up = ran.made_up;
      nothing_is_lost = λ yes. ran.lost plan refl distinct (yes_keeps plan found answered yes);
      each_branch_keeps = λ yes every. ran.each plan refl distinct (yes_keeps plan found answered yes) every;
      listed = is;
    }))
