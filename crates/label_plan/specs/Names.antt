-- The names of matches, as texts.
use Rattle.std.specs.Prelude.{◌≡◌, ◌||◌, ◌^◌, ◌<◌, ℕ, Bool, true, List, [], ◌∷◌, ◌++◌, decimal}
use Rattle.std.specs.Str.{bytes_eq}
use Rattle.conf_values.specs.Words.{is_label_name}

-- the word of a scope: `.` is the main scope, and any other is a label's name, which begins with
-- `@`
abbrev pub is_scope_word : List ℕ → Bool
is_scope_word word = bytes_eq word (46 ∷ []) || is_label_name word

-- three fields, with colons between them
abbrev pub joined : List ℕ → List ℕ → List ℕ → List ℕ
joined relay scope index = relay ++ 58 ∷ (scope ++ 58 ∷ index)

-- `RELAY:SCOPE:INDEX`, the numbers in decimal digits
abbrev pub spelled : ℕ → List ℕ → ℕ → List ℕ
spelled relay scope index = joined (decimal relay) scope (decimal index)

-- The text is the name of the match with this index in this scope of the relay with this number, as
-- it is spelled.
pub record IsName (text : List ℕ) (relay : ℕ) (scope : List ℕ) (index : ℕ) : Type 0 where
  pub relay_fits : relay < 2 ^ 32
  pub scope_is : is_scope_word scope ≡ true
  pub index_fits : index < 2 ^ 64
  pub text_is : text ≡ spelled relay scope index
