-- Whole numbers.
use Rattle.std.specs.Prelude.{ℕ, ◌+◌, ◌-◌, ◌*◌, ◌^◌, Bool, ◌&&◌, List, length, fold, nat_lt, Option, Some, None, if◌then◌else◌, option_and_then}
use Rattle.std.specs.List.{list_all}
use Rattle.std.specs.Char.{is_ascii_digit}
use Rattle.std.specs.Int.{is_in_range}

-- one or more decimal digits
abbrev pub is_digits : List ℕ → Bool
is_digits text = nat_lt 0 (length text) && list_all is_ascii_digit text

-- the value of decimal digits
unfoldable pub decimal : List ℕ → ℕ
decimal digits = fold (λ n digit. 10 * n + (digit - 48)) 0 digits

-- a number below 2 to the 64th, and no other
abbrev pub fitting : ℕ → Option ℕ
fitting n = if nat_lt n (2 ^ 64) then Some n else None

-- the value of one or more decimal digits, where it is below 2 to the 64th
unfoldable pub number_of : List ℕ → Option ℕ
number_of text = if is_digits text then fitting (decimal text) else None

-- the port that a text spells: a whole number from 1 to 65,535
unfoldable pub port_of : List ℕ → Option ℕ
port_of text = option_and_then (λ n. if is_in_range 1 65535 n then Some n else None)
    (number_of text)
