-- What is printed of a plan with the labels and reaches that it lacks, at whose named matches
-- events may go: a yes, or every broken rule; or why there is no answer.
use Rattle.std.specs.Prelude.{◌≡◌, ◌≢◌, ◌<◌, ◌≤◌, ◌⊎◌, All, Bool, true, false, ℕ, List, [], ◌∷◌, ◌++◌, codes, flat_map, get_or, length, Option}
use Rattle.std.specs.declared.vec.Vec.{Vec}
use Rattle.label_plan.specs.declared.name.DropName.{DropName}
use Rattle.label_plan.specs.Checks.{IsLabelledCheck}
use Rattle.loss_checker.specs.declared.broken.BrokenRule.{BrokenRule}
use Rattle.loss_rules.specs.Breaks.{Subject}
use Rattle.loss_rules.specs.declared.answer.Answer.TheVariants as answer
use Rattle.loss_rules.specs.declared.answer.Place.{Place}
use Rattle.loss_rules.specs.declared.answer.Rule.{Rule}
use Rattle.plan_answers.specs.Networks.{answer_line, IsStopLine}
use Rattle.program_text.specs.Plans.{AreRead}
use Rattle.plan_lines.specs.Faults.{IsRefusal}
use Rattle.plan_lines.specs.declared.error.PlanError.{PlanError}
use Rattle.plan_lines.specs.declared.error.PlanError.TheVariants as refusal
use Rattle.plan_advice.specs.Notes.{AddsNotes}
use Rattle.program_text.specs.Lines.{line}
use Rattle.program_text.specs.Output.{IsPrinted}
use Rattle.program_text.specs.declared.status.Status.{Status}
use Rattle.program_text.specs.declared.status.Status.TheVariants.{Done, No, Usage}
use Rattle.relayctl.specs.Dropping.{AreListed, IsMissing}
use Rattle.relayctl.specs.Explaining.{IsLossOrNotes, SaysFaults}
use Rattle.relayctl.specs.Faults.{IsFaultLeft}
use Rattle.relayctl.specs.declared.check.Check.{Check}
use Rattle.relayctl.specs.declared.check.Check.TheVariants as check

-- the line of a no for each place where the rule is broken
abbrev pub no_lines : Rule → List Place → List ℕ
no_lines rule [] = []
no_lines rule (at ∷ later) = answer_line (answer.No rule at) ++ no_lines rule later

-- the line of a no for every place where one of these rules is broken
abbrev pub all_no_lines : {A : Type 0} → List (BrokenRule A) → List ℕ
all_no_lines broken = flat_map (λ one. no_lines one.rule (one.place ∷ one.others.items)) broken

abbrev pub bytes_of : {A : Type 0} → Vec ℕ A → List ℕ
bytes_of text = text.items

-- These texts explain so many broken rules: each has steps that lose an event, or notes.
pub record AreExplained {A : Type 0} (plan : Subject A) (count : ℕ)
    (explained : List (Vec ℕ A)) : Type 0 where
  pub each : All (λ said. IsLossOrNotes plan said.items) explained
  pub as_many : length explained ≡ count

-- None is longer than one behind it.
abbrev pub AreShortestFirst : {A : Type 0} → List (Vec ℕ A) → Type 0
AreShortestFirst {A} texts = (i j : ℕ) (other : Vec ℕ A) → i ≤ j → j < length texts
    → length (get_or texts i other).items ≤ length (get_or texts j other).items

-- what is said of broken rules: the line of a no for every place, and behind these what explains
-- each rule, the shortest first
pub record SayBroken {A : Type 0} (plan : Subject A) (broken : List (BrokenRule A))
    (lines : List ℕ) : Type 0 where
  pub explained : List (Vec ℕ A)
  pub are : AreExplained plan (length broken) explained
  pub shortest_first : AreShortestFirst explained
  pub lines_are : lines ≡ all_no_lines broken ++ flat_map bytes_of explained

-- what is said of the rules of a plan, of which these are broken: where none are a yes, with what
-- may go at the matches of these names, else these rules; and behind it lines that each begin with
-- `#`
abbrev pub SaysRules : {A : Type 0} → List DropName → Subject A → List (BrokenRule A) → List ℕ
    → Status → Type 0
SaysRules names plan [] lines status = (listed : List ℕ) × AreListed plan names listed
    × AddsNotes (line (codes "yes") ++ listed) lines × (status ≡ Done)
SaysRules names plan (first ∷ others) lines status = (said : List ℕ)
    × SayBroken plan (first ∷ others) said × AddsNotes said lines × (status ≡ No)

-- the line behind that, where no labels were found
abbrev pub labels_note : Bool → List ℕ
labels_note true = []
labels_note false =
    line (codes "# relayctl label finds no labels for this plan: its own lines were asked")

-- what is said of a plan with relays and clients
pub record SaysAnswer {A : Type 0} (names : List DropName) (is_labelled : Bool) (plan : Subject A)
    (broken : List (BrokenRule A)) (lines : List ℕ) (status : Status) : Type 0 where
  pub relays : 0 < length plan.net.relays
  pub clients : 0 < length plan.net.clients
  pub said : List ℕ
  pub says : SaysRules names plan broken said status
  pub lines_are : lines ≡ said ++ labels_note is_labelled

-- what is said of a plan without relays, or without clients
pub record SaysEmpty {A : Type 0} (plan : Subject A) (lines : List ℕ)
    (status : Status) : Type 0 where
  pub empty : ((length plan.net.relays ≡ 0) × (lines ≡ line (codes "no relays")))
      ⊎ ((length plan.net.clients ≡ 0) × (lines ≡ line (codes "no clients")))
  pub is_status : status ≡ Usage

-- what is said of a plan of which these rules are broken
abbrev pub SaysCheck : {A : Type 0} → List DropName → Bool → Subject A → List (BrokenRule A)
    → Check A → Type 0
SaysCheck names is_labelled plan broken (check.Answered said) =
    SaysAnswer names is_labelled plan broken said.lines.items said.status
SaysCheck names is_labelled plan broken (check.Refused said) =
    SaysEmpty plan said.lines.items said.status

-- The texts are a plan and the configurations that it names. Once events are let go at the named
-- matches, it has these broken rules with the labels that it lacks, and this is said of it.
pub record IsChecked (A : Type 0) (given : List ℕ) (confs : List (List ℕ)) (names : List DropName)
    (Says : Bool → Subject A → List (BrokenRule A) → Type 0) : Type 0 where
  pub is_labelled : Bool
  pub text : List ℕ
  pub plan : Subject A
  pub broken : List (BrokenRule A)
  pub checked : IsLabelledCheck A confs names given is_labelled text plan broken
  pub says : Says is_labelled plan broken

-- an answer: a yes, or every broken rule
abbrev pub IsCheckAnswer : (A : Type 0) → List ℕ → List (List ℕ) → List DropName → List ℕ → Status
    → Type 0
IsCheckAnswer A given confs names lines status =
    IsChecked A given confs names
    (λ is_labelled plan broken. SaysAnswer names is_labelled plan broken lines status)

-- The texts say no plan, and this is said of its first fault, and of further ones that are left
-- where what has earlier ones is blank.
pub record IsFaultExplained (A : Type 0) (given : List ℕ) (confs : List (List ℕ)) (lines : List ℕ)
    (status : Status) : Type 0 where
  pub fault : PlanError
  pub refused : IsRefusal A given confs fault
  pub named_fault : fault ≢ refusal.Memory
  pub further : List PlanError
  pub are_left : All (IsFaultLeft A given confs) further
  pub says : SaysFaults fault further lines status

-- no answer: the plan has a fault, or a name means no match of it, or it has no relays, or no
-- clients
abbrev pub IsNoAnswer : (A : Type 0) → List ℕ → List (List ℕ) → List DropName → List ℕ → Status
    → Type 0
IsNoAnswer A given confs names lines status =
    IsFaultExplained A given confs lines status
    ⊎ (IsMissing A given confs names lines status
    ⊎ IsChecked A given confs names (λ is_labelled plan broken. SaysEmpty plan lines status))

-- what is said of the texts of a plan and of the configurations that it names
abbrev pub IsTextsCheck : (A : Type 0) → List ℕ → List (List ℕ) → List DropName → Check A → Type 0
IsTextsCheck A given confs names (check.Answered said) =
    IsCheckAnswer A given confs names said.lines.items said.status
IsTextsCheck A given confs names (check.Refused said) =
    IsNoAnswer A given confs names said.lines.items said.status

-- what is said of the texts that are read
pub record IsCheck (A : Type 0) (net : Option (List ℕ)) (named : List ℕ → Option (List ℕ))
    (names : List DropName) (found : Check A) : Type 0 where
  pub given : List ℕ
  pub confs : List (List ℕ)
  pub read : AreRead net named given confs
  pub is : IsTextsCheck A given confs names found

-- an answer is printed, and nothing is said of faults; or it is said in place of faults why there
-- is none, and nothing is printed
abbrev pub PrintsFound : {A : Type 0} → Check A → Option (List ℕ) → Option (List ℕ)
    → Option (List ℕ) → Option (List ℕ) → Status → Type 0
PrintsFound (check.Answered said) old new old_faults new_faults status =
    IsPrinted old new said.lines.items said.status status × (new_faults ≡ old_faults)
PrintsFound (check.Refused said) old new old_faults new_faults status =
    IsPrinted old_faults new_faults said.lines.items said.status status × (new ≡ old)

-- Memory ran out, or a reader failed: that is said in place of faults, and nothing is printed.
pub record PrintsUnread (old new old_faults new_faults : Option (List ℕ))
    (status : Status) : Type 0 where
  pub lines : List ℕ
  pub stop : IsStopLine lines
  pub said : IsPrinted old_faults new_faults lines Usage status
  pub silent : new ≡ old

-- what is found is such, and printed; or the texts aren't read
abbrev pub PrintsSuch : {A : Type 0} → (Check A → Type 0) → Option (List ℕ) → Option (List ℕ)
    → Option (List ℕ) → Option (List ℕ) → Status → Type 0
PrintsSuch {A} IsSuch old new old_faults new_faults status =
    ((found : Check A) × IsSuch found × PrintsFound found old new old_faults new_faults status)
    ⊎ PrintsUnread old new old_faults new_faults status

-- all that `check` does to the writer of answers and to that of faults, and its status
abbrev pub PrintsCheck : (A : Type 0) → Option (List ℕ) → (List ℕ → Option (List ℕ)) → List DropName
    → Option (List ℕ) → Option (List ℕ) → Option (List ℕ) → Option (List ℕ) → Status → Type 0
PrintsCheck A net named names old new old_faults new_faults status =
    PrintsSuch (IsCheck A net named names) old new old_faults new_faults status
