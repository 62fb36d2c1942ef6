-- What a pattern's text amounts to, found without making its plain patterns.
use Rattle.std.specs.Prelude.{◌≡◌, ⊤, ℕ, ◌+◌, ◌*◌, ◌<◌, ◌≤◌, ◌⊎◌, ◌↔◌, Bool, IsTrue, List, [], ◌∷◌, length, Option, MatchOption}
use Rattle.tag_pattern.specs.Cuts.{choices_in, most_parts}
use Rattle.tag_pattern.specs.Grammar.{Slot, IsPatternText, AreTooMany, HasPartialWildcard, choices, expansions}
use Rattle.tag_pattern.specs.declared.survey.Size.{Size}
use Rattle.tag_pattern.specs.declared.survey.Survey.{Survey}

-- the most items of a plain pattern of the slots
abbrev pub longest : List Slot → ℕ
longest [] = 0
longest (slot ∷ slots) = most_parts (choices slot) + longest slots

-- within the limits
abbrev pub IsWithin : Option Size → Type 0
IsWithin size = MatchOption size ⊤ (λ s. (0 < s.plains) × (s.plains ≤ 64) × (s.items ≤ 32))

-- A size with one more slot, or none where that is past the limits.
abbrev pub Grows : Size → List ℕ → Option Size → Type 0
Grows size body grown =
    let plains = size.plains * length (choices_in body) in
    let items = size.items + most_parts (choices_in body) in
    MatchOption grown ((64 < plains) ⊎ (32 < items)) (λ s. (s.plains ≡ plains) × (s.items ≡ items))

-- The size of the slots is that of the first ones, where those behind them come to it, or is past
-- the limits.
abbrev pub IsSizeBefore : List Slot → List Slot → Option Size → Type 0
IsSizeBefore slots behind size =
    MatchOption size (AreTooMany slots)
    (λ s. (length (expansions slots) ≡ s.plains * length (expansions behind))
    × (longest slots ≡ s.items + longest behind))

-- what is known of the slots, where those behind are still to be looked at
pub record IsSurveyed (slots behind : List Slot) (has_partial : Bool)
    (size : Option Size) : Type 0 where
  pub partial : HasPartialWildcard slots ↔ (IsTrue has_partial ⊎ HasPartialWildcard behind)
  pub sized : IsSizeBefore slots behind size

-- the survey of a text that slots spell
pub record Surveys (text : List ℕ) (survey : Survey) : Type 0 where
  pub slots : List Slot
  pub spelled : IsPatternText slots text
  pub partial : IsTrue survey.has_partial ↔ HasPartialWildcard slots
  pub plains : MatchOption survey.plains (AreTooMany slots)
      (λ n. (n ≡ length (expansions slots)) × (AreTooMany slots → ⊥))
