-- A plan that is read with the configurations that it names, and what is printed where none is.
use Rattle.std.specs.Prelude.{◌≡◌, ◌≢◌, ◌⊎◌, ℕ, List, ◌++◌, codes, Option}
use Rattle.std.specs.List.{AllZip}
use Rattle.loss_rules.specs.Breaks.{Subject}
use Rattle.plan_lines.specs.Faults.{IsRefusal}
use Rattle.plan_lines.specs.Forms.{confs_named}
use Rattle.plan_lines.specs.Plans.{IsPlanOf}
use Rattle.plan_lines.specs.Printed.{error_text}
use Rattle.plan_lines.specs.declared.error.PlanError.{PlanError}
use Rattle.plan_lines.specs.declared.error.PlanError.TheVariants as refusal
use Rattle.program_text.specs.declared.plan_text.PlanStop.{PlanStop}
use Rattle.program_text.specs.declared.plan_text.PlanStop.TheVariants as stop
use Rattle.program_text.specs.declared.reading.ReadFault.TheVariants as unread
use Rattle.program_text.specs.declared.status.Status.{Status}
use Rattle.program_text.specs.declared.status.Status.TheVariants.{Usage}
use Rattle.program_text.specs.Lines.{line, memory_line, unread_line}
use Rattle.program_text.specs.Output.{IsPrinted}
use Rattle.program_text.specs.Texts.{IsTextOf}

-- What is read.

-- The text of a plan, and of each configuration that it names, as they were read: `named` has what
-- each name's text is, where that is known.
pub record AreRead (net : Option (List ℕ)) (named : List ℕ → Option (List ℕ)) (text : List ℕ)
    (confs : List (List ℕ)) : Type 0 where
  pub net_is : IsTextOf net text
  pub confs_are : AllZip (λ name conf. IsTextOf (named name) conf) (confs_named text) confs

-- The texts that are read say this plan.
pub record IsPlanRead {A : Type 0} (net : Option (List ℕ)) (named : List ℕ → Option (List ℕ))
    (plan : Subject A) : Type 0 where
  pub text : List ℕ
  pub confs : List (List ℕ)
  pub read : AreRead net named text confs
  pub plan_is : IsPlanOf text confs plan

-- The texts that are read say no plan, and this is why.
pub record IsRefusedPlan (A : Type 0) (net : Option (List ℕ)) (named : List ℕ → Option (List ℕ))
    (fault : PlanError) : Type 0 where
  pub text : List ℕ
  pub confs : List (List ℕ)
  pub read : AreRead net named text confs
  pub refused : IsRefusal A text confs fault

-- What is printed.

-- the line of a plan's fault
abbrev pub plan_fault_line : PlanError → List ℕ
plan_fault_line fault = line (codes "fault " ++ error_text fault)

-- why there is no plan
abbrev pub IsPlanStop : (A : Type 0) → (net : Option (List ℕ))
    → (named : List ℕ → Option (List ℕ)) → PlanStop → Type 0
IsPlanStop A net named (stop.Plan fault) = IsRefusedPlan A net named fault × (fault ≢ refusal.Memory)
IsPlanStop A net named (stop.Unread fault) = Unit {0}

-- what a fault of the plan stops with: want of memory is none of the plan's
abbrev pub StopsWith : PlanError → PlanStop → Type 0
StopsWith fault (stop.Plan other) = (other ≡ fault) × (fault ≢ refusal.Memory)
StopsWith fault (stop.Unread reason) = (fault ≡ refusal.Memory) × (reason ≡ unread.Memory)

-- what is said of a stop; where there is no memory for a fault's line, that is said
abbrev pub SaysPlanStop : PlanStop → List ℕ → Type 0
SaysPlanStop (stop.Plan fault) lines = (lines ≡ plan_fault_line fault) ⊎ (lines ≡ memory_line)
SaysPlanStop (stop.Unread fault) lines = lines ≡ unread_line fault

-- What is said of a stop is printed.
pub record PrintsPlanStop (stopped : PlanStop) (old new : Option (List ℕ))
    (status : Status) : Type 0 where
  pub lines : List ℕ
  pub said : SaysPlanStop stopped lines
  pub printed : IsPrinted old new lines Usage status
