-- Booleans, and the forms of names.
use Rattle.std.specs.Prelude.{ℕ, Bool, true, false, not, ◌&&◌, ◌||◌, ◌==◌, List, [], ◌∷◌, length, codes, Option, Some, None, if◌then◌else◌}
use Rattle.std.specs.List.{list_all, list_any}
use Rattle.std.specs.Str.{bytes_eq}
use Rattle.std.specs.Char.{is_ascii_alphanumeric}
use Rattle.std.specs.Int.{is_in_range}

-- `true`, `yes` and the empty text are true, `false` and `no` are false, and no other text is
-- either
unfoldable pub boolean_of : List ℕ → Option Bool
boolean_of text =
    if list_any (bytes_eq text) (codes "true" ∷ codes "yes" ∷ [] ∷ []) then Some true
    else (if list_any (bytes_eq text) (codes "false" ∷ codes "no" ∷ []) then Some false else None)

-- whether the text begins with this byte
abbrev pub begins : ℕ → List ℕ → Bool
begins byte [] = false
begins byte (b ∷ rest) = b == byte

-- an ASCII letter, an ASCII digit, `_`, `-` or `.`
unfoldable pub is_path_byte : ℕ → Bool
is_path_byte b = is_ascii_alphanumeric b || b == 95 || b == 45 || b == 46

-- 1 to 64 ASCII letters, digits, `_`, `-` and `.`, of which `.` is not the first
unfoldable pub is_path : List ℕ → Bool
is_path text = is_in_range 1 64 (length text) && list_all is_path_byte text && not (begins 46 text)

-- the most bytes of a host's name; chosen here
abbrev pub most_host_bytes : ℕ
most_host_bytes = 1024

-- whether a `/` stands in the text
abbrev pub has_slash : List ℕ → Bool
has_slash text = list_any (λ b. b == 47) text

-- an ASCII letter, an ASCII digit or `_`
unfoldable pub is_label_byte : ℕ → Bool
is_label_byte b = is_ascii_alphanumeric b || b == 95

-- one or more ASCII letters, digits and `_`
unfoldable pub is_bare_label : List ℕ → Bool
is_bare_label text = not (length text == 0) && list_all is_label_byte text

-- an `@`, and one or more ASCII letters, digits and `_`
unfoldable pub is_label_name : List ℕ → Bool
is_label_name [] = false
is_label_name (b ∷ name) = b == 64 && is_bare_label name
