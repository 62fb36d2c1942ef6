-- What is printed of a plan, its answer or its fault, with what explains it.
use Rattle.std.specs.Prelude.{◌≡◌, ◌≢◌, Bool, true, false, ℕ, List, [], ◌++◌, codes, flat_map, Option, ◌⊎◌}
use Rattle.label_plan.specs.Plans.{IsDroppedPlanOf}
use Rattle.label_plan.specs.declared.name.DropName.{DropName}
use Rattle.loss_search.specs.Losses.{IsLosingText}
use Rattle.loss_rules.specs.Breaks.{IsAnswer, Subject}
use Rattle.loss_rules.specs.declared.answer.Answer.{Answer}
use Rattle.loss_rules.specs.declared.answer.Answer.TheVariants as answer
use Rattle.plan_answers.specs.Networks.{answer_line, answer_status, IsStopLine}
use Rattle.program_text.specs.Plans.{plan_fault_line, AreRead, IsRefusedPlan}
use Rattle.plan_lines.specs.declared.error.PlanError.{PlanError}
use Rattle.plan_lines.specs.declared.error.PlanError.TheVariants as refusal
use Rattle.program_text.specs.Lines.{line}
use Rattle.program_text.specs.Output.{IsPrinted}
use Rattle.program_text.specs.declared.status.Status.{Status}
use Rattle.program_text.specs.declared.status.Status.TheVariants.{Usage}
use Rattle.relayctl.specs.Dropping.{AreListed, IsMissing}

-- the last line behind steps that lose an event
abbrev pub loss_line : List ℕ
loss_line = line (codes "# relaynet replay of these lines lists what they lose")

-- the last line where there are no such steps
abbrev pub no_loss_line : List ℕ
no_loss_line = line (codes "# there are no steps here")

-- the last line, where there are such steps and where there are none
abbrev pub last_line : Bool → List ℕ
last_line true = loss_line
last_line false = no_loss_line

-- Steps that lose an acknowledged event in the network of the plan, and the line that says so; or
-- notes, and the line that there are no steps.
abbrev pub IsLossOrNotes : {A : Type 0} → Subject A → List ℕ → Type 0
IsLossOrNotes plan said =
    ((steps : List ℕ) × (said ≡ steps ++ loss_line) × IsLosingText plan.duty plan.net steps)
    ⊎ ((notes : List ℕ) × (said ≡ notes ++ no_loss_line))

-- what stands behind the answer's line: of a yes what may go at the matches of these names
abbrev pub IsBehind : {A : Type 0} → List DropName → Subject A → Answer → List ℕ → Type 0
IsBehind names plan answer.Yes said = AreListed plan names said
IsBehind names plan (answer.No rule place) said = IsLossOrNotes plan said

-- what is said of a plan's answer: its line, what stands behind that, and the answer's status
pub record SaysAnswer {A : Type 0} (names : List DropName) (plan : Subject A) (found : Answer)
    (lines : List ℕ) (status : Status) : Type 0 where
  pub said : List ℕ
  pub is_behind : IsBehind names plan found said
  pub lines_are : lines ≡ answer_line found ++ said
  pub is_status : status ≡ answer_status found

-- The texts that are read say a plan. Once events are let go at its named matches, it has an
-- answer, and this is said of it.
pub record IsExplained (A : Type 0) (net : Option (List ℕ)) (named : List ℕ → Option (List ℕ))
    (names : List DropName) (lines : List ℕ) (status : Status) : Type 0 where
  pub text : List ℕ
  pub confs : List (List ℕ)
  pub read : AreRead net named text confs
  pub plan : Subject A
  pub plan_is : IsDroppedPlanOf text confs names plan
  pub found : Answer
  pub answer_is : IsAnswer plan found
  pub says : SaysAnswer names plan found lines status

-- what is said of a plan's fault: its line, and notes
pub record SaysFault (fault : PlanError) (lines : List ℕ) (status : Status) : Type 0 where
  pub notes : List ℕ
  pub lines_are : lines ≡ plan_fault_line fault ++ notes
  pub is_status : status ≡ Usage

-- what is said of a plan's first fault, and of further ones: a line for each, and notes
pub record SaysFaults (first : PlanError) (further : List PlanError) (lines : List ℕ)
    (status : Status) : Type 0 where
  pub notes : List ℕ
  pub lines_are : lines ≡ (plan_fault_line first ++ flat_map plan_fault_line further) ++ notes
  pub is_status : status ≡ Usage

-- No plan is read, and this is said of its fault.
pub record IsExplainedFault (A : Type 0) (net : Option (List ℕ)) (named : List ℕ → Option (List ℕ))
    (lines : List ℕ) (status : Status) : Type 0 where
  pub fault : PlanError
  pub refused : IsRefusedPlan A net named fault
  pub named_fault : fault ≢ refusal.Memory
  pub says : SaysFault fault lines status

-- A plan is read, of which one of the names means no match, and this is said of that.
pub record IsExplainedMissing (A : Type 0) (net : Option (List ℕ))
    (named : List ℕ → Option (List ℕ)) (names : List DropName) (lines : List ℕ)
    (status : Status) : Type 0 where
  pub text : List ℕ
  pub confs : List (List ℕ)
  pub read : AreRead net named text confs
  pub missing : IsMissing A text confs names lines status

-- what is said of the texts that are read
abbrev pub IsExplanation : (A : Type 0) → Option (List ℕ) → (List ℕ → Option (List ℕ))
    → List DropName → List ℕ → Status → Type 0
IsExplanation A net named names lines status =
    IsExplained A net named names lines status
    ⊎ (IsExplainedFault A net named lines status
    ⊎ IsExplainedMissing A net named names lines status)

-- all that `explain` does to a writer, and its status
pub record PrintsExplanation (A : Type 0) (net : Option (List ℕ)) (named : List ℕ → Option (List ℕ))
    (names : List DropName) (old new : Option (List ℕ)) (status : Status) : Type 0 where
  pub lines : List ℕ
  pub meant : Status
  pub explained : IsExplanation A net named names lines meant
      ⊎ (IsStopLine lines × (meant ≡ Usage))
  pub printed : IsPrinted old new lines meant status
