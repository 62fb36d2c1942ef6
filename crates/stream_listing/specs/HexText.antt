-- Hex text with white space in it.
use Rattle.std.specs.Prelude.{◌≡◌, ℕ, List, ◌++◌, filter, take, not, Ok, IsErr}
use Rattle.std.specs.Char.{is_ascii_whitespace}
use Rattle.hex.specs.Hex.{decode_of}

-- the text without its white space, which may stand anywhere, also between the two digits of a byte
abbrev pub digits_of : List ℕ → List ℕ
digits_of text = filter (λ c. not (is_ascii_whitespace c)) text

-- the digits are the hex of the bytes, two of either case for each, as far as what is left over
pub record AreDigitsUpTo (digits bytes left : List ℕ) : Type 0 where
  pub front : List ℕ
  pub spelled : decode_of front ≡ Ok bytes
  pub whole : digits ≡ front ++ left

-- the digits are the hex of the bytes, and the two behind them that of none, whatever follows
pub record Breaks (digits bytes : List ℕ) : Type 0 where
  pub left : List ℕ
  pub read : AreDigitsUpTo digits bytes left
  pub broken : (more : List ℕ) → IsErr (decode_of (take 2 (left ++ more)))
