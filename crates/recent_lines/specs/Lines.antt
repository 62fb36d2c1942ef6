-- Lines.
use Rattle.std.specs.Prelude.{ℕ, ◌≡◌, ◌≢◌, ◌⊎◌, List, [], ◌∷◌, ◌++◌}
use Rattle.std.specs.List.{AllByRecursion, concat}

-- a line, with the LF at its end
pub record IsLine (line : List ℕ) : Type 0 where
  pub front : List ℕ
  pub plain : AllByRecursion (λ b. b ≢ 10) front
  pub line_is : line ≡ front ++ 10 ∷ []

-- these are the lines of the text, behind whose last LF nothing stands
pub record AreLines (text : List ℕ) (lines : List (List ℕ)) : Type 0 where
  pub each : AllByRecursion IsLine lines
  pub text_is : text ≡ concat lines

-- nothing stands behind the last LF of the text
abbrev pub EndsALine : List ℕ → Type 0
EndsALine text = (text ≡ []) ⊎ ((front : List ℕ) × (text ≡ front ++ 10 ∷ []))
