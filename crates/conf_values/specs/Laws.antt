-- What a size and a time stand for, in other words.
use Rattle.std.specs.Prelude.{◌≡◌, ℕ, ◌*◌, ◌^◌, ◌<◌, ◌⊎◌, ◌↔◌, true, List, [], ◌∷◌, ◌++◌, Option, Some}
use Rattle.conf_values.specs.Numbers.{is_digits, decimal}
use Rattle.conf_values.specs.Amounts.{amount_of}

-- The text is digits and one letter, and the number is the digits' value times the letter's factor.
pub record IsScaled (factor_of : ℕ → Option ℕ) (text : List ℕ) (n : ℕ) : Type 0 where
  pub digits : List ℕ
  pub letter : ℕ
  pub factor : ℕ
  pub text_is : text ≡ digits ++ (letter ∷ [])
  pub are_digits : is_digits digits ≡ true
  pub factor_is : factor_of letter ≡ Some factor
  pub value_is : decimal digits * factor ≡ n

-- the text is digits alone, and the number is their value
abbrev pub IsPlain : List ℕ → ℕ → Type 0
IsPlain text n = (is_digits text ≡ true) × (decimal text ≡ n)

-- the text is digits, with or without a unit's letter, and the number is what they stand for
abbrev pub IsAmount : (ℕ → Option ℕ) → List ℕ → ℕ → Type 0
IsAmount factor_of text n = IsPlain text n ⊎ IsScaled factor_of text n

-- a text has a value exactly where it is an amount below 2 to the 64th, and it has that value
abbrev pub HasAmount : (ℕ → Option ℕ) → Type 0
HasAmount factor_of = (text : List ℕ) (n : ℕ) → (amount_of factor_of text ≡ Some n)
    ↔ (IsAmount factor_of text n × (n < 2 ^ 64))
