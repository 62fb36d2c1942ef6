-- Lines that a reader of answers and steps passes over.
use Rattle.std.specs.Prelude.{◌≡◌, ℕ, List, [], ◌∷◌, ◌++◌, All}

-- A line that begins with `#`: no line feed stands in it but the one at its end.
pub record IsNote (line : List ℕ) : Type 0 where
  pub text : List ℕ
  pub unbroken : All (λ (byte : ℕ). ¬ (byte ≡ 10)) text
  pub is : line ≡ 35 ∷ (text ++ 10 ∷ [])

-- Lines that each begin with `#`.
pub data AreNotes : List ℕ → Type 0 where
  none : AreNotes []
  one_more : {before line : List ℕ} → AreNotes before → IsNote line → AreNotes (before ++ line)

-- lines that each begin with `#` were added to these
abbrev pub AddsNotes : List ℕ → List ℕ → Type 0
AddsNotes old new = (notes : List ℕ) × AreNotes notes × (new ≡ old ++ notes)
