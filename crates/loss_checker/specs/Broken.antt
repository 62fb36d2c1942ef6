-- Which rules of a plan are broken.
use Rattle.std.specs.Prelude.{◌≡◌, ◌<◌, ◌⊎◌, ℕ, List, [], ◌∷◌, Contains}
use Rattle.loss_rules.specs.Breaks.{Subject, IsKept, IsBrokenAt, IsAnswer, rule_number}
use Rattle.loss_rules.specs.Everywhere.{AreBrokenPlaces}
use Rattle.loss_rules.specs.declared.answer.Answer.{Answer}
use Rattle.loss_rules.specs.declared.answer.Answer.TheVariants as answer
use Rattle.loss_rules.specs.declared.answer.Rule.{Rule}
use Rattle.loss_checker.specs.Kept.{AreKeptBefore}
use Rattle.loss_checker.specs.declared.broken.BrokenRule.{BrokenRule}

-- the answer of the checker where these are the broken rules, in their order
abbrev pub answer_of : {A : Type 0} → List (BrokenRule A) → Answer
answer_of [] = answer.Yes
answer_of (first ∷ others) = answer.No first.rule first.place

-- The rule is one of those that are listed.
abbrev pub IsListed : {A : Type 0} → List (BrokenRule A) → Rule → Type 0
IsListed {A} found rule = (one : BrokenRule A) × Contains found one × (one.rule ≡ rule)

-- The rules stand in their order, each once.
abbrev pub StandInOrder : {A : Type 0} → List (BrokenRule A) → Type 0
StandInOrder [] = Unit {0}
StandInOrder {A} (first ∷ others) =
    ((other : BrokenRule A) → Contains others other
    → rule_number first.rule < rule_number other.rule) × StandInOrder others

-- These are the broken rules of the plan: each is broken first at its place, and with the others
-- these are all places where it is broken; each rule that isn't listed holds; they stand in their
-- order, so that the first of them is the checker's answer, which is a yes where there are none.
pub record AreBrokenRules {A : Type 0} (plan : Subject A)
    (found : List (BrokenRule A)) : Type 0 where
  pub broken : (one : BrokenRule A) → Contains found one → IsBrokenAt plan one.rule one.place
  pub places : (one : BrokenRule A) → Contains found one
      → AreBrokenPlaces plan one.rule (one.place ∷ one.others.items)
  pub others : (rule : Rule) → IsKept plan rule ⊎ IsListed found rule
  pub ordered : StandInOrder found
  pub answered : IsAnswer plan (answer_of found)

-- The first of the rules with lower numbers than this one that is broken, if one is.
abbrev pub IsFirstBefore : {A : Type 0} → Subject A → ℕ → List (BrokenRule A) → Type 0
IsFirstBefore plan number [] = AreKeptBefore plan number
IsFirstBefore plan number (first ∷ others) = IsAnswer plan (answer.No first.rule first.place)

-- The same of the rules with lower numbers than this one.
pub record AreBrokenBefore {A : Type 0} (plan : Subject A) (number : ℕ)
    (found : List (BrokenRule A)) : Type 0 where
  pub broken : (one : BrokenRule A) → Contains found one → IsBrokenAt plan one.rule one.place
  pub places : (one : BrokenRule A) → Contains found one
      → AreBrokenPlaces plan one.rule (one.place ∷ one.others.items)
  pub below : (one : BrokenRule A) → Contains found one → rule_number one.rule < number
  pub others : (rule : Rule) → rule_number rule < number → IsKept plan rule ⊎ IsListed found rule
  pub ordered : StandInOrder found
  pub first : IsFirstBefore plan number found
