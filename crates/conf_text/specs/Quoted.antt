-- Values in quotes (Fluentd, "Config File Syntax"). That other escapes and embedded code are
-- refused is chosen here.
use Rattle.std.specs.Prelude.{ℕ, Bool, ◌&&◌, ◌||◌, List, [], ◌∷◌, Option, Some, None, option_map, option_and_then, ◌==◌, if◌then◌else◌}

-- what a byte behind `\` stands for between double quotes: `\\`, `\"`, `\n`, `\r`, `\t`
abbrev pub double_escape : ℕ → Option ℕ
double_escape b = if b == 92 then Some 92
    else (if b == 34 then Some 34
    else (if b == 110 then Some 10
    else (if b == 114 then Some 13 else (if b == 116 then Some 9 else None))))

-- the same between single quotes: `\\`, `\'`
abbrev pub single_escape : ℕ → Option ℕ
single_escape b = if b == 92 then Some 92 else (if b == 39 then Some 39 else None)

-- the same between marks of either kind
abbrev pub escape : ℕ → ℕ → Option ℕ
escape mark b = if mark == 34 then double_escape b else single_escape b

-- `#{` begins embedded code between double quotes
abbrev pub embeds : ℕ → ℕ → ℕ → Bool
embeds mark b c = mark == 34 && (b == 35 && c == 123)

-- a value with one byte more in front, and the text behind its closing mark
abbrev pub with_byte : ℕ → Option (List ℕ × List ℕ) → Option (List ℕ × List ℕ)
with_byte b read = option_map (λ found. (b ∷ found.0, found.1)) read

-- The value that a text behind its opening mark spells, and the text behind the closing mark.
-- None: the mark never closes, an escape is none of the listed ones, or code is embedded.
unfoldable pub quoted : ℕ → List ℕ → Option (List ℕ × List ℕ)
quoted mark [] = None
quoted mark (b ∷ []) = if b == mark then Some ([], []) else None
quoted mark (b ∷ c ∷ rest) = if b == mark then Some ([], c ∷ rest)
    else (if b == 92 then option_and_then (λ e. with_byte e (quoted mark rest)) (escape mark c)
    else (if embeds mark b c then None else with_byte b (quoted mark (c ∷ rest))))

-- a byte that may do more than stand for itself
abbrev pub is_special : ℕ → ℕ → Bool
is_special mark b = b == mark || (b == 92 || b == 35)
