-- What is said of matches at which events may go on purpose: those that are named behind a yes, and
-- names that mean no match.
use Rattle.std.specs.Prelude.{◌≡◌, ◌≢◌, ◌<◌, ◌⊎◌, ℕ, List, [], ◌∷◌, ◌++◌, Contains, codes, length, map, Option}
use Rattle.std.specs.Borrow.{Bor}
use Rattle.std.specs.List.{AllZip}
use Rattle.label_plan.specs.Names.{spelled, IsName}
use Rattle.label_plan.specs.OneByOne.{IsMeant, IsRefusedAt}
use Rattle.label_plan.specs.Printed.{error_text, name_error_text}
use Rattle.label_plan.specs.declared.error.DropError.{DropError}
use Rattle.label_plan.specs.declared.error.DropError.TheVariants as error
use Rattle.label_plan.specs.declared.name.DropName.{DropName}
use Rattle.label_plan.specs.declared.place.MatchPlace.{MatchPlace}
use Rattle.loss_rules.specs.Breaks.{Subject}
use Rattle.plan_lines.specs.Plans.{IsPlanOf}
use Rattle.program_text.specs.Lines.{line, memory_line}
use Rattle.program_text.specs.Listings.{AreListed as AreLines}
use Rattle.program_text.specs.Output.{IsPrinted}
use Rattle.program_text.specs.declared.status.Status.{Status}
use Rattle.program_text.specs.declared.status.Status.TheVariants.{Usage}
use Rattle.relayctl.specs.declared.drops.DropNames.{DropNames}
use Rattle.relayctl.specs.declared.drops.DropNames.TheVariants as found
use Rattle.plan_advice.specs.Sites.{site_line}

-- The words are these names, each as it is spelled.
abbrev pub AreNames : List (List ℕ) → List DropName → Type 0
AreNames words names =
    AllZip (λ word name. IsName word name.relay name.scope.now name.index) words names

-- The word is no name of a match.
abbrev pub IsNoName : List ℕ → Type 0
IsNoName word = (relay : ℕ) (scope : List ℕ) (index : ℕ) → ¬ IsName word relay scope index

-- The words are names, or one of them is none.
abbrev pub AreReadOrMisspelt : {A : Type 0} → List (Bor (List ℕ)) → DropNames A → Type 0
AreReadOrMisspelt words (found.Read names) = AreNames (map (λ word. word.now) words) names.items
AreReadOrMisspelt words found.Misspelt = (word : List ℕ)
    × Contains (map (λ word. word.now) words) word × IsNoName word

-- a name as it is spelled
abbrev pub name_text : DropName → List ℕ
name_text name = spelled name.relay name.scope.now name.index

-- the line of a word that can't be read, or of a name that means no match, and why
abbrev pub drop_fault : List ℕ → List ℕ → List ℕ
drop_fault word why = line (codes "fault drop " ++ (word ++ (codes ": " ++ why)))

-- the line of a word that is no name; of one that is nothing
abbrev pub IsMisspeltLine : List ℕ → List ℕ → Type 0
IsMisspeltLine word text =
    (IsNoName word × (text ≡ drop_fault word name_error_text))
    ⊎ (((relay : ℕ) × (scope : List ℕ) × (index : ℕ) × IsName word relay scope index)
    × (text ≡ []))

-- Of each of the words that is no name it is printed that it is none; or that memory ran out.
pub record PrintsMisspelt (words : List (List ℕ)) (old new : Option (List ℕ))
    (status : Status) : Type 0 where
  pub lines : List ℕ
  pub lines_are : AreLines IsMisspeltLine words lines ⊎ (lines ≡ memory_line)
  pub printed : IsPrinted old new lines Usage status

-- What comes to a match may go.

-- The text is the line of the match that the name means: the name, the file, the match's line
-- there, and what stands in it.
pub record IsDropLine {A : Type 0} (plan : Subject A) (name : DropName)
    (text : List ℕ) : Type 0 where
  pub at : MatchPlace
  pub meant : IsMeant plan.net name at
  pub file : List ℕ
  pub shown : List ℕ
  pub text_is : text ≡ site_line (codes "  " ++ (name_text name ++ codes " in")) file at.line shown

-- The text is the line of the match that the name means; or the name means none, and there is no
-- line.
abbrev pub IsSaidOf : {A : Type 0} → Subject A → DropName → List ℕ → Type 0
IsSaidOf plan name text = IsDropLine plan name text
    ⊎ (((why : DropError) × IsRefusedAt plan.net name 0 why) × (text ≡ []))

-- That is said of each of the names, one behind another.
pub data SayDrops {A : Type 0} (plan : Subject A) : List DropName → List ℕ → Type 0 where
  none : SayDrops plan [] []
  one_more : {names : List DropName} {said : List ℕ} (name : DropName) (text : List ℕ)
      → SayDrops plan names said → IsSaidOf plan name text → SayDrops plan (names ++ name ∷ [])
      (said ++ text)

-- the line in front of these
abbrev pub drops_head : List ℕ
drops_head = line (codes "# What comes to these matches may go:")

-- what is listed of the names: nothing where there are none
abbrev pub AreListed : {A : Type 0} → Subject A → List DropName → List ℕ → Type 0
AreListed plan [] listed = listed ≡ []
AreListed plan (first ∷ others) listed = (said : List ℕ) × SayDrops plan (first ∷ others) said
    × (listed ≡ drops_head ++ said)

-- what is listed of the names was added to these lines
abbrev pub AddsDrops : {A : Type 0} → Subject A → List DropName → List ℕ → List ℕ → Type 0
AddsDrops plan names old new = (listed : List ℕ) × AreListed plan names listed
    × (new ≡ old ++ listed)

-- Names mean no match.

-- the line of a name that means no match of the plan, and why; of one that means a match nothing
abbrev pub IsMissingLine : {A : Type 0} → Subject A → DropName → List ℕ → Type 0
IsMissingLine plan name text =
    ((why : DropError) × IsRefusedAt plan.net name 0 why × (why ≢ error.Memory)
    × (text ≡ drop_fault (name_text name) (error_text why)))
    ⊎ (((at : MatchPlace) × IsMeant plan.net name at) × (text ≡ []))

-- The texts say a plan, and this is said of each of the names that means no match of it, of which
-- there are some.
pub record IsMissing (A : Type 0) (given : List ℕ) (confs : List (List ℕ)) (names : List DropName)
    (lines : List ℕ) (status : Status) : Type 0 where
  pub plan : Subject A
  pub plan_is : IsPlanOf given confs plan
  pub listed : AreLines (IsMissingLine plan) names lines
  pub some : 0 < length lines
  pub is_status : status ≡ Usage
