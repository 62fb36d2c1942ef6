-- The fields of names.
use Rattle.std.proofs.Common.{◌≡◌, ◌≢◌, inl, inr, ℕ, zero, suc, true, List, [], ◌∷◌, get_or, refl, sym, subst, ◌∙◌, arith, decimal}
use Rattle.std.proofs.lemmas.Bool.Decides.{Decides-eqb}
use Rattle.std.proofs.lemmas.Slice.Eq.{bytes_eq-Decides}
use Rattle.std.proofs.lemmas.Fmt.{decimal_injective}
use Rattle.std.proofs.lemmas.List.Sums.{AllPass-from_list_all}
use Rattle.conf_values.specs.Words.{is_label_byte, is_bare_label, is_label_name}
use Rattle.label_plan.specs.Names.{is_scope_word, joined, IsName}
use Rattle.label_plan.specs.Reading.{HasNoColon, AreFields, AreWords}
use Rattle.label_plan.proofs.Bools.{both, either}
use Rattle.label_plan.proofs.Numerals.{decimal_has_no_colon}

-- a colon is no byte of a label
colon_byte : (b : ℕ) → is_label_byte b ≡ true → b ≢ 58
unfolding is_label_byte
colon_byte b byte is = let colon : is_label_byte 58 ≡ true = subst (λ x. is_label_byte x ≡ true) is byte in absurd (cc)

bare_has_no_colon : (name : List ℕ) → is_bare_label name ≡ true → HasNoColon name
unfolding is_bare_label
bare_has_no_colon name is i less = colon_byte (get_or name i 0) (AllPass-from_list_all is_label_byte name (both _ _ is).1 i 0 less)

label_has_no_colon : (word : List ℕ) → is_label_name word ≡ true → HasNoColon word
unfolding is_label_name
label_has_no_colon [] is i less colon = absurd (cc)
label_has_no_colon (b ∷ name) is zero less colon = let at : b ≡ 64 = (Decides-eqb b 64).0 (both _ _ is).0 in absurd (omega (arith, at, colon))
label_has_no_colon (b ∷ name) is (suc i) less colon = bare_has_no_colon name (both _ _ is).1 i (omega (arith, less)) colon

-- a colon stands in no word of a scope
scope_has_no_colon : (word : List ℕ) → is_scope_word word ≡ true → HasNoColon word
scope_has_no_colon word is = elim (either _ _ is) [
  | inl dot ↦ subst HasNoColon (sym ((bytes_eq-Decides word (46 ∷ [])).0 dot)) main
  | inr label ↦ label_has_no_colon word label
]
  where
    main : HasNoColon (46 ∷ [])
    main zero less e = absurd (omega (arith, e))
    main (suc i) less e = absurd (omega (arith, less))

-- a name's fields
pub fields_of : (text : List ℕ) (relay : ℕ) (scope : List ℕ) (index : ℕ) → IsName text relay scope index → AreFields text (decimal relay) scope (decimal index)
fields_of text relay scope index is = record {
  text_is = is.text_is;
  relay_has_none = decimal_has_no_colon relay (omega (arith, is.relay_fits));
  scope_has_none = scope_has_no_colon scope is.scope_is;
}

-- what the fields of a name are, these are
pub words_of : (text first second third : List ℕ) (relay : ℕ) (scope : List ℕ) (index : ℕ) → IsName text relay scope index
    → (first ≡ decimal relay) × (second ≡ scope) × (third ≡ decimal index) → AreWords first second third relay scope index
words_of text first second third relay scope index is same = record {
  relay_fits = is.relay_fits;
  relay_is = sym same.0;
  scope_is = sym same.1;
  is_word = is.scope_is;
  index_fits = is.index_fits;
  index_is = sym same.2;
}

-- fields that are such words make a name
pub name_of : (text first second third : List ℕ) (relay : ℕ) (scope : List ℕ) (index : ℕ) → text ≡ joined first second third → AreWords first second third relay scope index → IsName text relay scope index
name_of text first second third relay scope index is words = record {
  relay_fits = words.relay_fits;
  scope_is = words.is_word;
  index_fits = words.index_fits;
  text_is = is ∙ rw (words.relay_is, words.scope_is, words.index_is) refl;
}

-- they are those of one name
pub one_name : (first second third : List ℕ) (relay : ℕ) (scope : List ℕ) (index : ℕ) (r : ℕ) (s : List ℕ) (i : ℕ) → AreWords first second third relay scope index → AreWords first second third r s i
    → (relay ≡ r) × (scope ≡ s) × (index ≡ i)
one_name first second third relay scope index r s i one two = (
  decimal_injective relay r (omega (arith, one.relay_fits)) (omega (arith, two.relay_fits)) (one.relay_is ∙ sym two.relay_is),
  one.scope_is ∙ sym two.scope_is,
  decimal_injective index i one.index_fits two.index_fits (one.index_is ∙ sym two.index_is),
)
