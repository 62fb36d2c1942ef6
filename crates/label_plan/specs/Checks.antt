-- What is found of a plan with the labels and reaches that it lacks.
use Rattle.std.specs.Prelude.{◌≡◌, ℕ, List, Bool, true, false}
use Rattle.label_plan.specs.Plans.{IsDroppedPlanOf}
use Rattle.label_plan.specs.declared.name.DropName.{DropName}
use Rattle.label_plan.specs.Labelling.{IsLabelledDropping}
use Rattle.loss_checker.specs.Broken.{AreBrokenRules}
use Rattle.loss_checker.specs.declared.broken.BrokenRule.{BrokenRule}
use Rattle.loss_rules.specs.Breaks.{Subject}

-- The text says the plan, once events are let go at the named matches, and these are its broken
-- rules, each with all its places.
pub record AreChecked {A : Type 0} (confs : List (List ℕ)) (names : List DropName) (text : List ℕ)
    (plan : Subject A) (broken : List (BrokenRule A)) : Type 0 where
  pub plan_is : IsDroppedPlanOf text confs names plan
  pub broken_are : AreBrokenRules plan broken

-- the text that is asked: the given one with the labels and reaches that it lacks, or the given one
-- itself
abbrev pub IsAsked : (A : Type 0) → List (List ℕ) → List DropName → List ℕ → Bool → List ℕ → Type 0
IsAsked A confs names given true text = IsLabelledDropping A confs names given text
IsAsked A confs names given false text = text ≡ given

-- Such a text is asked: it says the plan, and these are its broken rules, each with all its places.
pub record IsLabelledCheck (A : Type 0) (confs : List (List ℕ)) (names : List DropName)
    (given : List ℕ) (is_labelled : Bool) (text : List ℕ) (plan : Subject A)
    (broken : List (BrokenRule A)) : Type 0 where
  pub asked : IsAsked A confs names given is_labelled text
  pub checked : AreChecked confs names text plan broken
