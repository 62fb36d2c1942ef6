-- What is said of a plan whose configurations are adapted.
use Rattle.std.specs.Prelude.{◌≡◌, ◌⊎◌, true, false, ℕ, List, ◌++◌, codes, Option}
use Rattle.label_plan.specs.declared.name.DropName.{DropName}
use Rattle.conf_listing.specs.Networks.{AreAdaptedTexts, AreNotAdapted}
use Rattle.conf_listing.specs.declared.confs.StoppedConfs.{StoppedConfs}
use Rattle.program_text.specs.Plans.{AreRead}
use Rattle.plan_lines.specs.Forms.{confs_named}
use Rattle.program_text.specs.Lines.{line}
use Rattle.program_text.specs.declared.status.Status.{Status}
use Rattle.program_text.specs.declared.status.Status.TheVariants.{No, Usage}
use Rattle.relayctl.specs.Checking.{IsTextsCheck, PrintsSuch}
use Rattle.relayctl.specs.declared.check.Check.{Check}
use Rattle.relayctl.specs.declared.check.Check.TheVariants as check

-- the line behind an answer to adapted configurations
abbrev pub adapted_note : List ℕ
adapted_note =
    line
    (codes
    "# That is of the configurations as `relayctl adapt` prints them: relays have to run those")

-- the second is the first, an answer with that line behind it
abbrev pub AddsAdaptedNote : {A : Type 0} → Check A → Check A → Type 0
AddsAdaptedNote (check.Answered said) (check.Answered noted) =
    (noted.lines.items ≡ said.lines.items ++ adapted_note) × (noted.status ≡ said.status)
AddsAdaptedNote (check.Refused said) (check.Refused noted) = noted ≡ said
AddsAdaptedNote _ _ = ⊥

-- what is said of configurations that aren't all adapted: in place of an answer what isn't
-- accepted, and in place of faults that one has a fault
abbrev pub SaysStopped : {A : Type 0} → StoppedConfs A → Check A → Type 0
SaysStopped stopped (check.Answered said) = (stopped.has_fault ≡ false)
    × (said.lines ≡ stopped.lines) × (said.status ≡ No)
SaysStopped stopped (check.Refused said) = (stopped.has_fault ≡ true) × (said.lines ≡ stopped.lines)
    × (said.status ≡ Usage)

-- Each configuration is adapted, and this is said of the plan with those that stand for them.
pub record IsOfAdapted (A : Type 0) (given : List ℕ) (confs accepted : List (List ℕ))
    (names : List DropName) (found : Check A) : Type 0 where
  pub adapted : List (List ℕ)
  pub each : AreAdaptedTexts A confs accepted adapted
  pub before : Check A
  pub is : IsTextsCheck A given adapted names before
  pub noted : AddsAdaptedNote before found

-- Some configuration isn't adapted, and this is said of them.
pub record IsOfStopped (A : Type 0) (given : List ℕ) (confs accepted : List (List ℕ))
    (found : Check A) : Type 0 where
  pub stopped : StoppedConfs A
  pub are : AreNotAdapted A (confs_named given) confs accepted stopped.lines.items stopped.has_fault
  pub says : SaysStopped stopped found

-- what is said of the texts that are read
pub record IsAdaptedCheck (A : Type 0) (net : Option (List ℕ)) (named : List ℕ → Option (List ℕ))
    (accepted : List (List ℕ)) (names : List DropName) (found : Check A) : Type 0 where
  pub given : List ℕ
  pub confs : List (List ℕ)
  pub read : AreRead net named given confs
  pub is : IsOfAdapted A given confs accepted names found ⊎ IsOfStopped A given confs accepted found

-- all that `check --adapt` does to the writer of answers and to that of faults, and its status
abbrev pub PrintsAdaptedCheck : (A : Type 0) → Option (List ℕ) → (List ℕ → Option (List ℕ))
    → List (List ℕ) → List DropName → Option (List ℕ) → Option (List ℕ) → Option (List ℕ)
    → Option (List ℕ) → Status → Type 0
PrintsAdaptedCheck A net named accepted names old new old_faults new_faults status =
    PrintsSuch (IsAdaptedCheck A net named accepted names) old new old_faults new_faults status
