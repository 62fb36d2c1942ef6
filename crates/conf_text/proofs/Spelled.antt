-- What is written between quotes is read back.
use Rattle.std.proofs.Common.{◌≡◌, ℕ, ◌<◌, Bool, true, false, cond, eqb, ◌&&◌, ◌||◌, List, [], ◌∷◌, ◌++◌, length, get_or, Option, Some, refl, ap, ◌∙◌, append_assoc, length-append, arith}
use Rattle.std.specs.List.{flat_map}
use Rattle.std.specs.Option.{option_and_then}
use Rattle.std.proofs.lemmas.Bool.{eqb-true, false≢true}
use Rattle.std.proofs.lemmas.Bool.Decides.{nat_tests}
use Rattle.conf_text.specs.Quoted.{quoted, escape, single_escape, double_escape, embeds, with_byte}
use Rattle.conf_text.specs.Laws.{in_single, in_double, HasNoCode, SingleQuotesKeep, DoubleQuotesKeep}
use Rattle.conf_text.proofs.Quotes.{quoted_close, quoted_escape, quoted_stands}

-- a byte that is spelled by two, and one that is spelled by itself
two_bytes : (mark c b : ℕ) (value rest behind : List ℕ) → eqb 92 mark ≡ false → escape mark c ≡ Some b → quoted mark rest ≡ Some (value, behind) → quoted mark (92 ∷ c ∷ rest) ≡ Some (b ∷ value, behind)
two_bytes mark c b value rest behind other e h =
    quoted_escape mark (92 ∷ c ∷ rest) (omega arith) other refl ∙ ap (λ (o : Option ℕ). option_and_then (λ x. with_byte x (quoted mark rest)) o) e ∙ ap (λ r. with_byte b r) h

one_byte : (mark b : ℕ) (value rest behind : List ℕ) → 0 < length rest → eqb b mark ≡ false → eqb b 92 ≡ false → embeds mark b (get_or rest 0 0) ≡ false → quoted mark rest ≡ Some (value, behind) → quoted mark (b ∷ rest) ≡ Some (b ∷ value, behind)
one_byte mark b value rest behind some m s e h = quoted_stands mark (b ∷ rest) (omega arith) m s e ∙ ap (λ r. with_byte b r) h

-- ---- single quotes

ends_some : (xs behind : List ℕ) (mark : ℕ) → 0 < length (xs ++ (mark ∷ behind))
ends_some xs behind mark = omega (arith, length-append xs (mark ∷ behind))

single_is : (b : ℕ) (p q : Bool) → eqb b 92 ≡ p → eqb b 39 ≡ q → (p || q) ≡ true → single_escape b ≡ Some b
single_is b true q hp hq e = let is : b ≡ 92 = eqb-true _ _ hp in rw is refl
single_is b false true hp hq e = let is : b ≡ 39 = eqb-true _ _ hq in rw is refl
single_is b false false hp hq e = absurd (false≢true e)

single_step : (b : ℕ) (value behind : List ℕ) (t : Bool) → (eqb b 92 || eqb b 39) ≡ t → quoted 39 (flat_map in_single value ++ (39 ∷ behind)) ≡ Some (value, behind)
    → quoted 39 ((cond t (92 ∷ b ∷ []) (b ∷ []) ++ flat_map in_single value) ++ (39 ∷ behind)) ≡ Some (b ∷ value, behind)
single_step b value behind true e h = two_bytes 39 b b value (flat_map in_single value ++ (39 ∷ behind)) behind refl (single_is b (eqb b 92) (eqb b 39) refl refl e) h
single_step b value behind false e h = one_byte 39 b value (flat_map in_single value ++ (39 ∷ behind)) behind (ends_some (flat_map in_single value) behind 39) (grind (arith, nat_tests)) (grind (arith, nat_tests)) refl h

pub single_keeps : SingleQuotesKeep
single_keeps [] behind = quoted_close 39 (39 ∷ behind) (omega arith) refl
single_keeps (b ∷ value) behind = single_step b value behind (eqb b 92 || eqb b 39) refl (single_keeps value behind)

-- ---- double quotes

-- the first byte of what is written
first_byte : (b : ℕ) (t n r h : Bool) (rest : List ℕ) → get_or (cond t (92 ∷ b ∷ []) (cond n (92 ∷ 110 ∷ []) (cond r (92 ∷ 114 ∷ []) (cond h (92 ∷ 116 ∷ []) (b ∷ [])))) ++ rest) 0 0 ≡ cond (t || (n || (r || h))) 92 b
first_byte b true n r h rest = refl
first_byte b false true r h rest = refl
first_byte b false false true h rest = refl
first_byte b false false false true rest = refl
first_byte b false false false false rest = refl

no_brace : (t : Bool) (b c : ℕ) → (eqb b 35 && eqb c 123) ≡ false → (eqb b 35 && eqb (cond t 92 c) 123) ≡ false
no_brace true b c e = grind (arith, nat_tests)
no_brace false b c e = e

no_code : (b : ℕ) (value behind : List ℕ) → HasNoCode (b ∷ value) → embeds 34 b (get_or (flat_map in_double value ++ (34 ∷ behind)) 0 0) ≡ false
no_code b [] behind clean = grind (arith, nat_tests)
no_code b (c ∷ value) behind clean =
    let first = first_byte c (eqb c 92 || eqb c 34) (eqb c 10) (eqb c 13) (eqb c 9) (flat_map in_double value ++ (34 ∷ behind)) in
    rw (append_assoc (in_double c) (flat_map in_double value) (34 ∷ behind), first) (no_brace ((eqb c 92 || eqb c 34) || (eqb c 10 || (eqb c 13 || eqb c 9))) b c clean.0)

clean_rest : (b : ℕ) (value : List ℕ) → HasNoCode (b ∷ value) → HasNoCode value
clean_rest b [] clean = tt
clean_rest b (c ∷ value) clean = clean.1

double_is : (b : ℕ) (p q : Bool) → eqb b 92 ≡ p → eqb b 34 ≡ q → (p || q) ≡ true → double_escape b ≡ Some b
double_is b true q hp hq e = let is : b ≡ 92 = eqb-true _ _ hp in rw is refl
double_is b false true hp hq e = let is : b ≡ 34 = eqb-true _ _ hq in rw is refl
double_is b false false hp hq e = absurd (false≢true e)

double_step : (b : ℕ) (value behind : List ℕ) (t n r h : Bool) → (eqb b 92 || eqb b 34) ≡ t → eqb b 10 ≡ n → eqb b 13 ≡ r → eqb b 9 ≡ h
    → embeds 34 b (get_or (flat_map in_double value ++ (34 ∷ behind)) 0 0) ≡ false
    → quoted 34 (flat_map in_double value ++ (34 ∷ behind)) ≡ Some (value, behind)
    → quoted 34 ((cond t (92 ∷ b ∷ []) (cond n (92 ∷ 110 ∷ []) (cond r (92 ∷ 114 ∷ []) (cond h (92 ∷ 116 ∷ []) (b ∷ [])))) ++ flat_map in_double value) ++ (34 ∷ behind)) ≡ Some (b ∷ value, behind)
double_step b value behind true n r h et en er eh clean ih = two_bytes 34 b b value (flat_map in_double value ++ (34 ∷ behind)) behind refl (double_is b (eqb b 92) (eqb b 34) refl refl et) ih
double_step b value behind false true r h et en er eh clean ih = let is : b ≡ 10 = eqb-true _ _ en in rw is (two_bytes 34 110 10 value (flat_map in_double value ++ (34 ∷ behind)) behind refl refl ih)
double_step b value behind false false true h et en er eh clean ih = let is : b ≡ 13 = eqb-true _ _ er in rw is (two_bytes 34 114 13 value (flat_map in_double value ++ (34 ∷ behind)) behind refl refl ih)
double_step b value behind false false false true et en er eh clean ih = let is : b ≡ 9 = eqb-true _ _ eh in rw is (two_bytes 34 116 9 value (flat_map in_double value ++ (34 ∷ behind)) behind refl refl ih)
double_step b value behind false false false false et en er eh clean ih = one_byte 34 b value (flat_map in_double value ++ (34 ∷ behind)) behind (ends_some (flat_map in_double value) behind 34) (grind (arith, nat_tests)) (grind (arith, nat_tests)) clean ih

pub double_keeps : DoubleQuotesKeep
double_keeps [] behind clean = quoted_close 34 (34 ∷ behind) (omega arith) refl
double_keeps (b ∷ value) behind clean = double_step b value behind (eqb b 92 || eqb b 34) (eqb b 10) (eqb b 13) (eqb b 9) refl refl refl refl (no_code b value behind clean) (double_keeps value behind (clean_rest b value clean))
