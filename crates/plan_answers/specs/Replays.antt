-- What is printed of steps that are taken in a network.
use Rattle.std.specs.Prelude.{◌≡◌, ◌==◌, ℕ, List, ◌++◌, codes, decimal, length, flat_map, zip, cond, not, count_by, Bool, IsTrue, ◌↔◌}
use Rattle.std.specs.List.{AllZip}
use Rattle.hex.specs.Hex.{encode_lower}
use Rattle.custody_core.specs.Custody.{EachBranchKeeps, IsKeptAs, NothingIsLost, NothingIsMadeUp}
use Rattle.custody_steps.specs.Steps.{Steps, IsRefusedAt}
use Rattle.custody_steps.specs.World.{World, initial_world}
use Rattle.custody_steps.specs.declared.fault.StepFault.{StepFault}
use Rattle.custody_steps.specs.declared.fault.StepFault.TheVariants as refusal
use Rattle.loss_rules.specs.Breaks.{Subject}
use Rattle.loss_rules.specs.declared.answer.Answer.{Answer}
use Rattle.loss_rules.specs.declared.answer.Answer.TheVariants as answer
use Rattle.loss_rules.specs.declared.label.Duty.{Duty}
use Rattle.loss_rules.specs.declared.label.Duty.TheVariants as duty
use Rattle.custody_store.specs.Book.{Told}
use Rattle.relay_net.specs.Network.{Network}
use Rattle.step_lines.specs.StepLines.{SayAll, IsRefusedLine}
use Rattle.step_lines.specs.declared.step.Step.{Step}
use Rattle.text_lines.specs.Lines.{text_lines}
use Rattle.program_text.specs.declared.status.Status.{Status}
use Rattle.program_text.specs.declared.status.Status.TheVariants.{Done, No, Usage}
use Rattle.program_text.specs.Lines.{line}

-- the line of what became of an acknowledged event, under the tag that the client sent: whether it
-- is held
abbrev pub fate_line : Told × Bool → List ℕ
fate_line (told, is_held) = line (cond is_held (codes "held ") (codes "lost ") ++ told.event.tag
    ++ codes " " ++ encode_lower told.event.entry)

-- The listing of a world after so many steps: a line for each event that was acknowledged to a
-- client, in that order, which says whether it is kept as the plan asks; and the last line, which
-- says how many aren't.
pub record IsWorldListing {A : Type 0} (asked : Duty) (net : Network A) (w : World) (steps : ℕ)
    (written : List ℕ) (status : Status) : Type 0 where
  pub held : List Bool
  pub are_held : AllZip (λ told is_held. IsTrue is_held ↔ IsKeptAs asked net w told)
      w.acknowledged held
  pub lost : ℕ
  pub lost_is : lost ≡ count_by not held
  pub written_is : written ≡ flat_map fate_line (zip w.acknowledged held)
      ++ line (codes "steps " ++ decimal steps ++ codes " acknowledged "
      ++ decimal (length w.acknowledged) ++ codes " lost " ++ decimal lost)
  pub is_status : status ≡ cond (lost == 0) Done No

-- the code of a refusal; want of memory is none
abbrev pub IsCodeOf : StepFault → List ℕ → Type 0
IsCodeOf refusal.NoSuch code = code ≡ codes "S1"
IsCodeOf refusal.NotAllowed code = code ≡ codes "S2"
IsCodeOf refusal.Memory code = ⊥

-- The steps of the text were all taken in the network of a plan with this answer, and this is
-- listed of what they lead to. In that world nothing is made up, whatever the answer is; where it
-- is yes, nothing that was acknowledged is lost, and, where the plan asks for it, each branch
-- keeps.
pub record AreTaken {A : Type 0} (plan : Subject A) (found : Answer) (text written : List ℕ)
    (status : Status) : Type 0 where
  pub steps : List (Step A)
  pub read : SayAll (text_lines text) steps
  pub world : World
  pub taken : Steps plan.net initial_world steps world
  pub nothing_is_made_up : NothingIsMadeUp plan.net world
  pub nothing_is_lost : found ≡ answer.Yes → NothingIsLost plan.net world
  pub each_branch_keeps : found ≡ answer.Yes → plan.duty ≡ duty.Every
      → EachBranchKeeps plan.net world
  pub listed : IsWorldListing plan.duty plan.net world (length steps) written status

-- What is listed of a text of steps, in the network of a plan with this answer: where the steps
-- lead to, or the step that is refused, or the first line that says neither a step nor nothing.
pub data IsReplayed {A : Type 0} (plan : Subject A) (found : Answer) (text written : List ℕ)
    (status : Status) : Type 0 where
  lists_fates : AreTaken plan found text written status → IsReplayed plan found text written status
  lists_refusal : (steps : List (Step A)) (number : ℕ) (fault : StepFault) (code : List ℕ)
      → SayAll (text_lines text) steps → IsRefusedAt plan.net steps number fault
      → IsCodeOf fault code
      → written ≡ line (codes "refused step " ++ decimal number ++ codes " " ++ code) → status ≡ No
      → IsReplayed plan found text written status
  lists_bad_line : (number : ℕ) → IsRefusedLine A text number
      → written ≡ line (codes "fault S3 line " ++ decimal number)
      → status ≡ Usage
      → IsReplayed plan found text written status
