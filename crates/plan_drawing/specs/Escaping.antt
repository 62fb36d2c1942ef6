-- Names in a picture: ASCII alone, and in quotes.
use Rattle.std.specs.Prelude.{ℕ, List, [], ◌∷◌, ◌++◌, ◌==◌, ◌&&◌, ◌||◌, cond, nat_le, nat_lt}
use Rattle.std.specs.List.{flat_map}
use Rattle.hex.specs.Hex.{encode_lower}

-- a byte as itself where it is a printed character of ASCII, else `\x` and its two hex digits
abbrev pub shown : ℕ → List ℕ
shown byte = cond (nat_le 32 byte && nat_lt byte 127) (byte ∷ [])
    (92 ∷ 120 ∷ encode_lower (byte ∷ []))

-- a byte with `\` in front where it is a quote or `\`
abbrev pub inside_quotes : ℕ → List ℕ
inside_quotes byte = cond ((byte == 34) || (byte == 92)) (92 ∷ byte ∷ []) (byte ∷ [])

-- bytes in quotes
abbrev pub quoted : List ℕ → List ℕ
quoted bytes = (34 ∷ []) ++ flat_map inside_quotes (flat_map shown bytes) ++ (34 ∷ [])
