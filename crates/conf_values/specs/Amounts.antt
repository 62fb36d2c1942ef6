-- Numbers with a unit's letter behind them.
use Rattle.std.specs.Prelude.{ℕ, ◌-◌, ◌*◌, ◌^◌, ◌||◌, ◌==◌, List, length, take, slice_index, Option, Some, None, if◌then◌else◌}
use Rattle.std.specs.Option.{option_and_then, option_map_or}
use Rattle.conf_values.specs.declared.amount.Units.{Units}
use Rattle.conf_values.specs.declared.amount.Units.TheVariants as units
use Rattle.conf_values.specs.Numbers.{fitting, number_of}

-- what a letter multiplies the digits of a size by: k, m, g and t are the powers of 1,024, in
-- either case
unfoldable pub size_factor : ℕ → Option ℕ
size_factor letter =
    if letter == 107 || letter == 75 then Some 1024
    else (if letter == 109 || letter == 77 then Some (1024 ^ 2)
    else (if letter == 103 || letter == 71 then Some (1024 ^ 3)
    else (if letter == 116 || letter == 84 then Some (1024 ^ 4) else None)))

-- what a letter multiplies the digits of a time by: s, m, h and d are a second, a minute, an hour
-- and a day
unfoldable pub time_factor : ℕ → Option ℕ
time_factor letter =
    if letter == 115 then Some 1
    else (if letter == 109 then Some 60
    else (if letter == 104 then Some (60 * 60)
    else (if letter == 100 then Some (24 * 60 * 60) else None)))

-- what a letter multiplies digits by
abbrev pub factor_of : Units → ℕ → Option ℕ
factor_of units.Sizes letter = size_factor letter
factor_of units.Times letter = time_factor letter

-- the value of digits, or of digits and one unit's letter, where it is below 2 to the 64th
unfoldable pub amount_of : (ℕ → Option ℕ) → List ℕ → Option ℕ
amount_of factor text = option_map_or
    (λ by. option_and_then (λ n. fitting (n * by)) (number_of (take (length text - 1) text)))
    (factor (slice_index text (length text - 1))) (number_of text)

-- the bytes of a size
abbrev pub size_of : List ℕ → Option ℕ
size_of text = amount_of size_factor text

-- the seconds of a time
abbrev pub seconds_of : List ℕ → Option ℕ
seconds_of text = amount_of time_factor text
