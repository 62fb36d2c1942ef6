-- How names are read off texts.
use Rattle.std.specs.Prelude.{◌≡◌, ◌≢◌, ◌==◌, ◌&&◌, ◌^◌, ◌<◌, not, ℕ, Bool, true, false, List, [], ◌∷◌, length, slice_index, decimal}
use Rattle.label_plan.specs.Names.{is_scope_word, joined}

-- No colon stands in the text.
abbrev pub HasNoColon : List ℕ → Type 0
HasNoColon text = (i : ℕ) → i < length text → slice_index text i ≢ 58

-- The text is these fields: the first colon stands behind the first one, and the second behind the
-- second.
pub record AreFields (text relay scope index : List ℕ) : Type 0 where
  pub text_is : text ≡ joined relay scope index
  pub relay_has_none : HasNoColon relay
  pub scope_has_none : HasNoColon scope

-- These are the words of the number, the scope and the index.
pub record AreWords (first second third : List ℕ) (relay : ℕ) (scope : List ℕ)
    (index : ℕ) : Type 0 where
  pub relay_fits : relay < 2 ^ 32
  pub relay_is : decimal relay ≡ first
  pub scope_is : scope ≡ second
  pub is_word : is_scope_word scope ≡ true
  pub index_fits : index < 2 ^ 64
  pub index_is : decimal index ≡ third

-- whether a number's digits may begin like this: with no sign, and with a zero only where nothing
-- stands behind it
abbrev pub can_begin : List ℕ → Bool
can_begin [] = false
can_begin (first ∷ []) = not (first == 43)
can_begin (first ∷ second ∷ rest) = not (first == 43) && not (first == 48)
