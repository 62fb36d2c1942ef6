-- What becomes of the configurations of a plan.
use Rattle.std.specs.Prelude.{◌≡◌, Bool, true, false, ℕ, List, [], ◌∷◌, ◌++◌, codes}
use Rattle.std.specs.List.{AllZip, list_any}
use Rattle.plan_lines.specs.Plans.{texts}
use Rattle.program_text.specs.Lines.{line}
use Rattle.program_text.specs.Stops.{stop_line}
use Rattle.conf_listing.specs.Answers.{IsAdapted}
use Rattle.conf_listing.specs.Confs.{IsAdaptedConf}
use Rattle.conf_listing.specs.declared.confs.AdaptedConfs.{AdaptedConfs}
use Rattle.conf_listing.specs.declared.confs.AdaptedConfs.TheVariants as adapted
use Rattle.conf_listing.specs.declared.outcome.AdaptedConf.{AdaptedConf}
use Rattle.conf_listing.specs.declared.outcome.AdaptedConf.TheVariants as outcome

-- What is said.

-- the line in front of what is said of the configuration of this name
abbrev pub name_line : List ℕ → List ℕ
name_line name = line (name ++ codes ":")

-- what is said of the configuration of this name: nothing where a relay reads a text, its fault, or
-- in words that nothing is stated of what isn't accepted
abbrev pub IsListing : {A : Type 0} → List ℕ → AdaptedConf A → List ℕ → Type 0
IsListing name (outcome.Text found) said = said ≡ []
IsListing name (outcome.Undecided found) said = (words : List ℕ) × (said ≡ name_line name ++ words)
IsListing name (outcome.Faulty stopped) said = said ≡ name_line name ++ stop_line stopped

-- what is said of one configuration is added
abbrev pub AddsListing : {A : Type 0} → List ℕ → AdaptedConf A → List ℕ → List ℕ → Type 0
AddsListing name found old new = (said : List ℕ) × IsListing name found said × (new ≡ old ++ said)

-- What is said of configurations of these names, one behind another.
pub data AreListed {A : Type 0} : List (List ℕ) → List (AdaptedConf A) → List ℕ → Type 0 where
  none : AreListed [] [] []
  one_more : {names : List (List ℕ)} {outcomes : List (AdaptedConf A)} {before after : List ℕ}
      (name : List ℕ) (found : AdaptedConf A)
      → AreListed names outcomes before → AddsListing name found before after
      → AreListed (names ++ name ∷ []) (outcomes ++ found ∷ []) after

-- no relay reads a text for it
abbrev pub is_stopped : {A : Type 0} → AdaptedConf A → Bool
is_stopped (outcome.Text found) = false
is_stopped (outcome.Undecided found) = true
is_stopped (outcome.Faulty stopped) = true

-- it has a fault
abbrev pub is_faulty : {A : Type 0} → AdaptedConf A → Bool
is_faulty (outcome.Text found) = false
is_faulty (outcome.Undecided found) = false
is_faulty (outcome.Faulty stopped) = true

-- What is said of configurations of these names: each in its place, and behind them what would
-- accept all that isn't accepted.
pub record AreStopped {A : Type 0} (names : List (List ℕ)) (outcomes : List (AdaptedConf A))
    (lines : List ℕ) (has_fault : Bool) : Type 0 where
  pub said : List ℕ
  pub each : AreListed names outcomes said
  pub accepting : List ℕ
  pub lines_are : lines ≡ said ++ accepting
  pub fault : has_fault ≡ list_any is_faulty outcomes

-- What is found.

-- the text is the one that a relay reads
abbrev pub IsTextIn : {A : Type 0} → AdaptedConf A → List ℕ → Type 0
IsTextIn (outcome.Text found) text = text ≡ found.text.items
IsTextIn (outcome.Undecided found) text = ⊥
IsTextIn (outcome.Faulty stopped) text = ⊥

-- the texts of all of them
abbrev pub AreTextsOf : {A : Type 0} → List (AdaptedConf A) → List (List ℕ) → Type 0
AreTextsOf outcomes found = AllZip IsTextIn outcomes found

-- what becomes of each
abbrev pub AreOutcomes : (A : Type 0) → List (List ℕ) → List (List ℕ) → List (AdaptedConf A)
    → Type 0
AreOutcomes A confs accepted outcomes =
    AllZip (λ conf found. IsAdaptedConf A conf accepted found) confs outcomes

-- a relay reads these texts, and they are what stands for the configurations
abbrev pub AreAdaptedTexts : (A : Type 0) → List (List ℕ) → List (List ℕ) → List (List ℕ) → Type 0
AreAdaptedTexts A confs accepted found =
    AllZip (λ conf text. IsAdapted A conf accepted text) confs found

-- Some of these configurations isn't adapted, and this is said of them.
pub record AreNotAdapted (A : Type 0) (names confs accepted : List (List ℕ)) (lines : List ℕ)
    (has_fault : Bool) : Type 0 where
  pub outcomes : List (AdaptedConf A)
  pub each : AreOutcomes A confs accepted outcomes
  pub stopped : list_any is_stopped outcomes ≡ true
  pub said : AreStopped names outcomes lines has_fault

-- what becomes of the configurations of these names
abbrev pub AreAdaptedConfs : (A : Type 0) → List (List ℕ) → List (List ℕ) → List (List ℕ)
    → AdaptedConfs A → Type 0
AreAdaptedConfs A names confs accepted (adapted.Texts found) =
    AreAdaptedTexts A confs accepted (texts found.texts.items)
AreAdaptedConfs A names confs accepted (adapted.Stopped found) =
    AreNotAdapted A names confs accepted found.lines.items found.has_fault
