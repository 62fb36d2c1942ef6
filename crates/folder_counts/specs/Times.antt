-- Times in texts.
use Rattle.std.specs.Prelude.{ℕ, ℤ, ◌/◌, ◌%◌, false, List, ◌++◌, decimal, codes, unsigned_abs, Some}
use Rattle.std.specs.Fmt.{sign_text}
use Rattle.std.specs.Int.{is_negative}
use Rattle.std.specs.Option.{option_map_or}
use Rattle.jiff_fmt.specs.Text.{datetime_text, zulu_text}
use Rattle.folder_counts.specs.declared.instant.Instant.{Instant}

-- so many nanoseconds are a second
abbrev pub second : ℕ
second = 1000000000

-- a number below 10^9 in nine digits, with zeros in front
abbrev pub nine_digits : ℕ → List ℕ
nine_digits n =
    decimal (n / 100000000 % 10) ++ decimal (n / 10000000 % 10) ++ decimal (n / 1000000 % 10)
    ++ decimal (n / 100000 % 10) ++ decimal (n / 10000 % 10) ++ decimal (n / 1000 % 10)
    ++ decimal (n / 100 % 10)
    ++ decimal (n / 10 % 10) ++ decimal (n % 10)

-- so many nanoseconds as seconds, with nine places behind the point
abbrev pub size_text : ℕ → List ℕ
size_text nanos = decimal (nanos / second) ++ codes "." ++ nine_digits (nanos % second)

-- the same with a minus in front of what is below zero
abbrev pub seconds_text : ℤ → List ℕ
seconds_text nanos = sign_text (is_negative nanos) ++ size_text (unsigned_abs nanos)

-- an instant as RFC 3339 writes it, in UTC and with nine places behind the seconds; outside of the
-- years that this writes the seconds since the beginning of 1970
abbrev pub instant_text : Instant → List ℕ
instant_text instant =
    option_map_or (λ shown. datetime_text false 84 (Some 9) shown ++ zulu_text false) instant.shown
    (seconds_text instant.nanos)
