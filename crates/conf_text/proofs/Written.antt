-- What is written as a line is read as that line.
use Rattle.std.proofs.Common.{◌≡◌, ℕ, suc, ◌+◌, ◌-◌, Bool, true, false, cond, eqb, ltb, ◌&&◌, not, List, [], ◌∷◌, ◌++◌, length, take, Some, refl, sym, ap, ◌∙◌, append_assoc, length-append, arith}
use Rattle.std.specs.List.{flat_map, list_all, prefix_len, suffix_len, position_or_len}
use Rattle.std.proofs.lemmas.Bool.{eqb-true, eq-eqb, lt-ltb, false≢true}
use Rattle.std.proofs.lemmas.Bool.Decides.{nat_tests}
use Rattle.std.proofs.lemmas.List.{take_all, reverse-append}
use Rattle.std.proofs.lemmas.List.Folds.{list_all-append}
use Rattle.std.proofs.Math.Seq.{take-append_seam, drop-append_seam, get_or-append_seam}
use Rattle.conf_text.specs.Text.{is_blank, begins, ends_in, skip_blanks, drop_blanks, trimmed, first_word, after_word, comment_at, without_comment, is_name_byte, is_name, is_parameter_name}
use Rattle.conf_text.specs.Form.{parameter, opening_form, end_form, inside_form, section_form, quoted_form, value_form, parameter_form, text_form, line_form}
use Rattle.conf_text.specs.Laws.{in_single, setting_line, SettingsAreRead, OpeningsAreRead, EndsAreRead}
use Rattle.conf_text.proofs.Quotes.{is_other}
use Rattle.conf_text.proofs.Spelled.{single_keeps}

and_true : (a b : Bool) → (a && b) ≡ true → (a ≡ true) × (b ≡ true)
and_true true b e = (refl, e)
and_true false b e = absurd (false≢true e)

not_true : (a : Bool) → not a ≡ true → a ≡ false
not_true true e = absurd (false≢true e)
not_true false e = refl

-- ---- blanks

skip_plain : (a : ℕ) (xs : List ℕ) → is_blank a ≡ false → skip_blanks (a ∷ xs) ≡ a ∷ xs
unfolding skip_blanks
skip_plain a xs e = rw e refl

skip_one : (xs : List ℕ) → skip_blanks (32 ∷ xs) ≡ skip_blanks xs
unfolding skip_blanks
skip_one xs = let more : 1 + prefix_len is_blank xs ≡ suc (prefix_len is_blank xs) = omega arith in rw more refl

suffix_plain : (xs : List ℕ) (b : ℕ) → is_blank b ≡ false → suffix_len is_blank (xs ++ (b ∷ [])) ≡ 0
suffix_plain xs b e = rw (reverse-append xs (b ∷ [])) (rw e refl)

drop_plain : (xs : List ℕ) (b : ℕ) → is_blank b ≡ false → drop_blanks (xs ++ (b ∷ [])) ≡ xs ++ (b ∷ [])
unfolding drop_blanks
drop_plain xs b e = rw (suffix_plain xs b e) (take_all _ _ (omega arith))

-- a line that begins and ends with no blank
trim_plain : (a b : ℕ) (xs ys : List ℕ) → is_blank a ≡ false → is_blank b ≡ false → a ∷ xs ≡ ys ++ (b ∷ []) → trimmed (a ∷ xs) ≡ a ∷ xs
unfolding trimmed
trim_plain a b xs ys ea eb e = ap drop_blanks (skip_plain a xs ea ∙ e) ∙ drop_plain ys b eb ∙ sym e

trim_one : (xs : List ℕ) → trimmed (32 ∷ xs) ≡ trimmed xs
unfolding trimmed
trim_one xs = ap drop_blanks (skip_one xs)

-- ---- words

position_plain : (xs rest : List ℕ) → list_all (λ b. not (is_blank b)) xs ≡ true → position_or_len is_blank (xs ++ (32 ∷ rest)) ≡ length xs
position_plain [] rest e = refl
position_plain (x ∷ xs) rest e =
    let b = and_true (not (is_blank x)) (list_all (λ b. not (is_blank b)) xs) e in
    rw b.0 (omega (arith, position_plain xs rest b.1))

word_is : (xs rest : List ℕ) → list_all (λ b. not (is_blank b)) xs ≡ true → first_word (xs ++ (32 ∷ rest)) ≡ xs
unfolding first_word
word_is xs rest e = rw (position_plain xs rest e) (take-append_seam xs (32 ∷ rest))

behind_is : (xs rest : List ℕ) → list_all (λ b. not (is_blank b)) xs ≡ true → after_word (xs ++ (32 ∷ rest)) ≡ 32 ∷ rest
unfolding after_word
behind_is xs rest e = rw (position_plain xs rest e) (drop-append_seam xs (32 ∷ rest))

-- ---- comments

no_start : (a b : Bool) → b ≡ false → (a && b) ≡ false
no_start true b e = e
no_start false b e = refl

comment_free : (xs : List ℕ) → list_all (λ b. not (eqb b 35)) xs ≡ true → comment_at xs ≡ length xs
unfolding comment_at
comment_free [] e = refl
comment_free (b ∷ []) e = refl
comment_free (b ∷ c ∷ xs) e =
    let h = and_true (not (eqb b 35)) (list_all (λ b. not (eqb b 35)) (c ∷ xs)) e in
    let k = and_true (not (eqb c 35)) (list_all (λ b. not (eqb b 35)) xs) h.1 in
    rw (no_start (is_blank b) (eqb c 35) (not_true _ k.0)) (omega (arith, comment_free (c ∷ xs) h.1))

whole_is : (xs : List ℕ) → list_all (λ b. not (eqb b 35)) xs ≡ true → without_comment xs ≡ xs
unfolding without_comment
whole_is xs e = rw (comment_free xs e) (take_all _ _ (omega arith))

-- ---- ends

ends_seam : (xs : List ℕ) (b : ℕ) → ends_in b (xs ++ (b ∷ [])) ≡ true
ends_seam xs b =
    let len : length (xs ++ (b ∷ [])) - 1 ≡ length xs = omega (arith, length-append xs (b ∷ [])) in
    let some : ltb 0 (length (xs ++ (b ∷ []))) ≡ true = lt-ltb _ _ (omega (arith, length-append xs (b ∷ []))) in
    rw (len, some, get_or-append_seam xs b [] 0) (eq-eqb b b refl)

take_seam : (xs : List ℕ) (b : ℕ) → take (length (xs ++ (b ∷ [])) - 1) (xs ++ (b ∷ [])) ≡ xs
take_seam xs b =
    let len : length (xs ++ (b ∷ [])) - 1 ≡ length xs = omega (arith, length-append xs (b ∷ [])) in
    rw len (take-append_seam xs (b ∷ []))

-- ---- names

-- a byte of a name is no blank, no `#` and no `<`, `/` or quote
name_byte : (b : ℕ) → is_name_byte b ≡ true → (is_blank b ≡ false) × (eqb b 35 ≡ false) × (eqb b 60 ≡ false) × (eqb b 47 ≡ false)
unfolding is_name_byte
name_byte b e = (grind (arith, nat_tests), grind (arith, nat_tests), grind (arith, nat_tests), grind (arith, nat_tests))

names_all : (p : ℕ → Bool) → ((b : ℕ) → is_name_byte b ≡ true → p b ≡ true) → (xs : List ℕ) → list_all is_name_byte xs ≡ true → list_all p xs ≡ true
names_all p one [] e = refl
names_all p one (x ∷ xs) e =
    let b = and_true (is_name_byte x) (list_all is_name_byte xs) e in
    rw (one x b.0) (names_all p one xs b.1)

negated : (a : Bool) → a ≡ false → not a ≡ true
negated a e = rw e refl

no_blanks : (name : List ℕ) → list_all is_name_byte name ≡ true → list_all (λ b. not (is_blank b)) name ≡ true
no_blanks = names_all (λ b. not (is_blank b)) (λ b h. negated _ (name_byte b h).0)

no_hashes : (name : List ℕ) → list_all is_name_byte name ≡ true → list_all (λ b. not (eqb b 35)) name ≡ true
no_hashes = names_all (λ b. not (eqb b 35)) (λ b h. negated _ (name_byte b h).1)

name_bytes : (name : List ℕ) → is_name name ≡ true → list_all is_name_byte name ≡ true
unfolding is_name
name_bytes name e = (and_true (ltb 0 (length name)) (list_all is_name_byte name) e).1

-- ---- section lines

section_is : (text : List ℕ) → list_all (λ b. not (eqb b 35)) (text ++ (62 ∷ [])) ≡ true → section_form (text ++ (62 ∷ [])) ≡ inside_form text
unfolding section_form
section_is text e =
    let whole = whole_is (text ++ (62 ∷ [])) e in
    let same : drop_blanks (without_comment (text ++ (62 ∷ []))) ≡ text ++ (62 ∷ []) = ap drop_blanks whole ∙ drop_plain text 62 refl in
    rw (same, ends_seam text 62, take_seam text 62) refl

line_is : (text : List ℕ) → list_all (λ b. not (eqb b 35)) (text ++ (62 ∷ [])) ≡ true → line_form (60 ∷ (text ++ (62 ∷ []))) ≡ inside_form text
unfolding line_form text_form
line_is text e =
    let trim : trimmed (60 ∷ (text ++ (62 ∷ []))) ≡ 60 ∷ (text ++ (62 ∷ [])) = trim_plain 60 62 (text ++ (62 ∷ [])) (60 ∷ text) refl refl refl in
    let some : eqb (length (60 ∷ (text ++ (62 ∷ [])))) 0 ≡ false = is_other _ _ (λ x. omega arith) in
    rw (trim, some) (section_is text e)

all_with_end : (xs : List ℕ) → list_all (λ b. not (eqb b 35)) xs ≡ true → list_all (λ b. not (eqb b 35)) (xs ++ (62 ∷ [])) ≡ true
all_with_end xs e = rw (list_all-append (λ b. not (eqb b 35)) xs (62 ∷ []), e) refl

pub ends_read : EndsAreRead
unfolding inside_form end_form
ends_read name e = line_is (47 ∷ name) (all_with_end name (no_hashes name (name_bytes name e))) ∙ rw e refl

begins_name : (name rest : List ℕ) → is_name name ≡ true → begins 47 (name ++ rest) ≡ false
unfolding is_name
begins_name [] rest e = absurd (false≢true e)
begins_name (b ∷ name) rest e =
    (name_byte b (and_true (is_name_byte b) (list_all is_name_byte name) (and_true (ltb 0 (length (b ∷ name))) (list_all is_name_byte (b ∷ name)) e).1).0).3

pub openings_read : OpeningsAreRead
unfolding inside_form opening_form
openings_read name argument e trim free =
    let bytes = name_bytes name e in
    let word = word_is name argument (no_blanks name bytes) in
    let behind = behind_is name argument (no_blanks name bytes) in
    let clean : list_all (λ b. not (eqb b 35)) (name ++ (32 ∷ argument)) ≡ true = rw (list_all-append (λ b. not (eqb b 35)) name (32 ∷ argument), no_hashes name bytes) free in
    line_is (name ++ (32 ∷ argument)) (all_with_end (name ++ (32 ∷ argument)) clean)
    ∙ rw (begins_name name (32 ∷ argument) e, word, behind, e, trim_one argument, trim) refl

-- ---- parameters

-- a parameter's name begins with an `@` or a byte of a name
at_or_name : (b : ℕ) (rest : List ℕ) (t : Bool) → eqb b 64 ≡ t → cond t (is_name rest) (is_name (b ∷ rest)) ≡ true
    → (is_blank b ≡ false) × (eqb b 35 ≡ false) × (eqb b 60 ≡ false) × (list_all (λ x. not (is_blank x)) rest ≡ true)
at_or_name b rest true at e =
    let is : b ≡ 64 = eqb-true _ _ at in
    rw is (refl, refl, refl, no_blanks rest (name_bytes rest e))
at_or_name b rest false at e =
    let bytes = and_true (is_name_byte b) (list_all is_name_byte rest) (name_bytes (b ∷ rest) e) in
    let first = name_byte b bytes.0 in
    (first.0, first.1, first.2, no_blanks rest bytes.1)

first_is : (b : ℕ) (rest : List ℕ) → is_parameter_name (b ∷ rest) ≡ true → (is_blank b ≡ false) × (eqb b 35 ≡ false) × (eqb b 60 ≡ false) × (list_all (λ x. not (is_blank x)) rest ≡ true)
unfolding is_parameter_name
first_is b rest e = at_or_name b rest (eqb b 64) refl e

nothing_behind : (name value : List ℕ) → quoted_form name (Some (value, [])) ≡ parameter name value
unfolding skip_blanks without_comment comment_at
nothing_behind name value = refl

value_is : (name value : List ℕ) → value_form name (32 ∷ 39 ∷ (flat_map in_single value ++ (39 ∷ []))) ≡ parameter name value
unfolding value_form
value_is name value =
    let body = flat_map in_single value ++ (39 ∷ []) in
    let skipped : skip_blanks (32 ∷ 39 ∷ body) ≡ 39 ∷ body = skip_one (39 ∷ body) ∙ skip_plain 39 body refl in
    rw (skipped, single_keeps value []) (nothing_behind name value)

some_setting : (b : ℕ) (rest value : List ℕ) → is_parameter_name (b ∷ rest) ≡ true → line_form (setting_line (b ∷ rest) value) ≡ parameter (b ∷ rest) value
unfolding line_form text_form parameter_form
some_setting b rest value e =
    let first = first_is b rest e in
    let body = flat_map in_single value ++ (39 ∷ []) in
    let name = b ∷ rest in
    let free : list_all (λ x. not (is_blank x)) name ≡ true = rw (negated _ first.0) first.3 in
    let trim : trimmed (name ++ (32 ∷ 39 ∷ body)) ≡ name ++ (32 ∷ 39 ∷ body) = trim_plain b 39 (rest ++ (32 ∷ 39 ∷ body)) (name ++ (32 ∷ 39 ∷ flat_map in_single value)) first.0 refl (sym (append_assoc name (32 ∷ 39 ∷ flat_map in_single value) (39 ∷ []))) in
    let some : eqb (length (name ++ (32 ∷ 39 ∷ body))) 0 ≡ false = is_other _ _ (λ x. omega arith) in
    rw (trim, some, first.1, first.2, word_is name (39 ∷ body) free, behind_is name (39 ∷ body) free, e) (value_is name value)

no_name : is_parameter_name [] ≡ true → ⊥
unfolding is_parameter_name
no_name e = false≢true e

pub settings_read : SettingsAreRead
settings_read [] value e = absurd (no_name e)
settings_read (b ∷ rest) value e = some_setting b rest value e
