-- What is printed of a plan that lacks labels and reaches.
use Rattle.std.specs.Prelude.{◌≡◌, ℕ, List, codes, Option, Some, ◌⊎◌}
use Rattle.std.specs.declared.vec.Vec.{Vec}
use Rattle.label_plan.specs.Labelling.{IsLabelled}
use Rattle.label_plan.specs.Lines.{lines_without_labels}
use Rattle.plan_answers.specs.Networks.{SaysNoAnswer, IsStopLine}
use Rattle.program_text.specs.Plans.{AreRead}
use Rattle.program_text.specs.Lines.{line}
use Rattle.program_text.specs.Output.{IsPrinted}
use Rattle.program_text.specs.Texts.{IsTextOf}
use Rattle.program_text.specs.declared.status.Status.{Status}
use Rattle.program_text.specs.declared.status.Status.TheVariants.{Done, No, Usage}

-- The text is that of the plan that is read, with the labels and reaches that it lacks.
pub record IsLabelledPlan (A : Type 0) (net : Option (List ℕ)) (named : List ℕ → Option (List ℕ))
    (text : List ℕ) : Type 0 where
  pub given : List ℕ
  pub confs : List (List ℕ)
  pub read : AreRead net named given confs
  pub labelled : IsLabelled A confs given text

-- Such a text, or that none was found.
abbrev pub IsTextOrNone : (A : Type 0) → Option (List ℕ) → (List ℕ → Option (List ℕ)) → List ℕ
    → Status → Type 0
IsTextOrNone A net named lines status = (IsLabelledPlan A net named lines × (status ≡ Done))
    ⊎ ((lines ≡ line (codes "no labels")) × (status ≡ No))

-- what `label` prints of a plan
abbrev pub AreLabels : (A : Type 0) → Option (List ℕ) → (List ℕ → Option (List ℕ)) → List ℕ → Status
    → Type 0
AreLabels A net named lines status = IsTextOrNone A net named lines status
    ⊎ (SaysNoAnswer A net named lines × (status ≡ Usage))

-- all that `label` does to a writer, and its status
pub record PrintsLabels (A : Type 0) (net : Option (List ℕ)) (named : List ℕ → Option (List ℕ))
    (old new : Option (List ℕ)) (status : Status) : Type 0 where
  pub lines : List ℕ
  pub meant : Status
  pub labels : AreLabels A net named lines meant
  pub printed : IsPrinted old new lines meant status

-- The text has the lines of the plan that is read which say something else than labels and reaches.
pub record IsWithoutLabels {A : Type 0} (net : Option (List ℕ)) (text : Vec ℕ A) : Type 0 where
  pub given : List ℕ
  pub net_is : IsTextOf net given
  pub text_is : text.items ≡ lines_without_labels given

-- all that `label --fresh` does to a writer, and its status: what `label` does of such a text, or
-- it says that there is none
abbrev pub PrintsFreshLabels : (A : Type 0) → Option (List ℕ) → (List ℕ → Option (List ℕ))
    → Option (List ℕ) → Option (List ℕ) → Status → Type 0
PrintsFreshLabels A net named old new status =
    ((text : Vec ℕ A) × IsWithoutLabels net text
    × PrintsLabels A (Some text.items) named old new status)
    ⊎ ((lines : List ℕ) × IsStopLine lines × IsPrinted old new lines Usage status)
