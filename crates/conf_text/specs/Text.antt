-- Words on the bytes of one line.
use Rattle.std.specs.Prelude.{ℕ, ◌+◌, Bool, false, ◌&&◌, ◌||◌, List, [], ◌∷◌, length, take, drop, ◌-◌, ◌==◌, nat_lt, slice_index, if◌then◌else◌}
use Rattle.std.specs.List.{prefix_len, suffix_len, position_or_len, list_all}
use Rattle.std.specs.Int.{is_in_range}

-- a space or a tab
abbrev pub is_blank : ℕ → Bool
is_blank b = b == 32 || b == 9

-- whether the text begins with this byte
abbrev pub begins : ℕ → List ℕ → Bool
begins byte [] = false
begins byte (b ∷ rest) = b == byte

-- whether the text ends with this byte
abbrev pub ends_in : ℕ → List ℕ → Bool
ends_in byte text = nat_lt 0 (length text) && slice_index text (length text - 1) == byte

-- the text without the blanks at its front
unfoldable pub skip_blanks : List ℕ → List ℕ
skip_blanks text = drop (prefix_len is_blank text) text

-- the text without the blanks at its end
unfoldable pub drop_blanks : List ℕ → List ℕ
drop_blanks text = take (length text - suffix_len is_blank text) text

-- the text without the blanks at both ends
unfoldable pub trimmed : List ℕ → List ℕ
trimmed text = drop_blanks (skip_blanks text)

-- the text up to its first blank
unfoldable pub first_word : List ℕ → List ℕ
first_word text = take (position_or_len is_blank text) text

-- the text from its first blank on
unfoldable pub after_word : List ℕ → List ℕ
after_word text = drop (position_or_len is_blank text) text

-- where the comment begins, at the first `#` that stands behind a blank, or the length where there
-- is none
unfoldable pub comment_at : List ℕ → ℕ
comment_at [] = 0
comment_at (b ∷ []) = 1
comment_at (b ∷ c ∷ rest) = if is_blank b && c == 35 then 1 else comment_at (c ∷ rest) + 1

-- the text up to its comment
unfoldable pub without_comment : List ℕ → List ℕ
without_comment text = take (comment_at text) text

-- a letter, a digit or `_`
unfoldable pub is_name_byte : ℕ → Bool
is_name_byte b = is_in_range 97 122 b || is_in_range 65 90 b || is_in_range 48 57 b || b == 95

-- one or more letters, digits or `_`
unfoldable pub is_name : List ℕ → Bool
is_name text = nat_lt 0 (length text) && list_all is_name_byte text

-- such a name, or an `@` and such a name
unfoldable pub is_parameter_name : List ℕ → Bool
is_parameter_name [] = false
is_parameter_name (b ∷ rest) = if b == 64 then is_name rest else is_name (b ∷ rest)
