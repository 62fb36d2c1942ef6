-- What digits and a unit's letter stand for.
use Rattle.std.specs.Prelude.{Option, Some, None}
use Rattle.std.proofs.Common.{◌≡◌, ℕ, ◌+◌, ◌-◌, ◌*◌, ◌^◌, ◌<◌, inl, inr, Bool, true, false, length, get_or, take, nat_lt, List, [], ◌∷◌, ◌++◌, sym, ap, arith, ◌∙◌, refl}
use Rattle.std.specs.List.{list_all}
use Rattle.std.specs.Option.{option_and_then, option_map_or}
use Rattle.std.specs.Char.{is_ascii_digit}
use Rattle.std.proofs.lemmas.Bool.Decides.{nat_tests}
use Rattle.std.proofs.lemmas.Option.{cond_some, none-some}
use Rattle.std.proofs.lemmas.List.{take_more, take_all, length-append, length-take}
use Rattle.std.proofs.lemmas.List.Folds.{list_all_at}
use Rattle.std.proofs.Math.Nat.{le-mul_of_pos_right}
use Rattle.std.proofs.Math.Seq.{take-append_seam, get_or-append_seam}
use Rattle.conf_values.specs.declared.amount.Units.{Units}
use Rattle.conf_values.specs.declared.amount.Units.TheVariants as units
use Rattle.conf_values.specs.Numbers.{fitting, is_digits, decimal, number_of}
use Rattle.conf_values.specs.Amounts.{size_factor, time_factor, factor_of, amount_of}
use Rattle.conf_values.specs.Laws.{IsPlain, IsScaled, IsAmount}
use Rattle.conf_values.proofs.Numbers.{spelled}

-- the empty text has no value
pub amount_nil : (u : Units) (text : List ℕ) → length text ≡ 0 → None ≡ amount_of (factor_of u) text
unfolding amount_of size_factor time_factor number_of
amount_nil units.Sizes [] h = refl
amount_nil units.Times [] h = refl
amount_nil units.Sizes (b ∷ rest) h = absurd (omega arith)
amount_nil units.Times (b ∷ rest) h = absurd (omega arith)

is_fitting : (m n : ℕ) → fitting m ≡ Some n → (m ≡ n) × (n < 2 ^ 64)
is_fitting m n h = let r = cond_some (nat_lt m (2 ^ 64)) m n h in let less : m < 2 ^ 64 = grind (arith, nat_tests) in (r.1, omega arith)

number_from : (b : Bool) (text : List ℕ) (n : ℕ) → is_digits text ≡ b → number_of text ≡ Some n → (is_digits text ≡ true) × (decimal text ≡ n) × (n < 2 ^ 64)
unfolding number_of
number_from true text n e h = let r = is_fitting (decimal text) n (rw e at h) in (e, r.0, r.1)
number_from false text n e h = absurd (none-some n (rw e at h))

number_is : (text : List ℕ) (n : ℕ) → number_of text ≡ Some n → (is_digits text ≡ true) × (decimal text ≡ n) × (n < 2 ^ 64)
number_is text n h = number_from (is_digits text) text n refl h

some_digits : (text : List ℕ) → is_digits text ≡ true → 0 < length text
some_digits text h = grind (arith, nat_tests)

all_digits : (text : List ℕ) → is_digits text ≡ true → list_all is_ascii_digit text ≡ true
all_digits text h = grind (arith, nat_tests)

digit_at : (b : Bool) (text : List ℕ) (i : ℕ) → is_ascii_digit (get_or text i 0) ≡ b → i < length text → list_all is_ascii_digit text ≡ true → is_ascii_digit (get_or text i 0) ≡ true
digit_at true text i e l h = e
digit_at false text i e l h = let other = list_all_at is_ascii_digit text i 0 l e in absurd (cc)

last_digit : (text : List ℕ) → is_digits text ≡ true → is_ascii_digit (get_or text (length text - 1) 0) ≡ true
last_digit text h = let some = some_digits text h in digit_at _ text (length text - 1) refl (omega arith) (all_digits text h)

-- a letter's factor is positive, and a digit has none
pub record IsTable (factor : ℕ → Option ℕ) : Type 0 where
  pub positive : (letter f : ℕ) → factor letter ≡ Some f → 0 < f
  pub no_digit : (digit : ℕ) → is_ascii_digit digit ≡ true → factor digit ≡ None

size_positive : (letter f : ℕ) → size_factor letter ≡ Some f → 0 < f
unfolding size_factor
size_positive letter f h = grind (arith, nat_tests)

size_digit : (digit : ℕ) → is_ascii_digit digit ≡ true → size_factor digit ≡ None
unfolding size_factor
size_digit digit h = grind (arith, nat_tests)

time_positive : (letter f : ℕ) → time_factor letter ≡ Some f → 0 < f
unfolding time_factor
time_positive letter f h = grind (arith, nat_tests)

time_digit : (digit : ℕ) → is_ascii_digit digit ≡ true → time_factor digit ≡ None
unfolding time_factor
time_digit digit h = grind (arith, nat_tests)

pub size_table : IsTable size_factor
size_table = record { positive = size_positive; no_digit = size_digit }

pub time_table : IsTable time_factor
time_table = record { positive = time_positive; no_digit = time_digit }

-- what the text in front of the last byte is, and the last byte
in_two : (text : List ℕ) → 0 < length text → text ≡ take (length text - 1) text ++ (get_or text (length text - 1) 0 ∷ [])
in_two text some =
    let more = take_more text (length text - 1) 0 (omega arith) in
    let all = take_all (length text - 1 + 1) text (omega arith) in
    sym all ∙ more

-- a value is an amount's
module _ (factor : ℕ → Option ℕ) (text : List ℕ) (n : ℕ) where
  scaled_from : (f : ℕ) → factor (get_or text (length text - 1) 0) ≡ Some f → (o : Option ℕ) → number_of (take (length text - 1) text) ≡ o → option_and_then (λ m. fitting (m * f)) o ≡ Some n → IsAmount factor text n × (n < 2 ^ 64)
  scaled_from f is None e h = absurd (none-some n h)
  scaled_from f is (Some m) e h =
      let r = is_fitting (m * f) n h in
      let d = number_is (take (length text - 1) text) m e in
      let some = some_digits (take (length text - 1) text) d.0 in
      (inr (record { digits = take (length text - 1) text; letter = get_or text (length text - 1) 0; factor = f; text_is = in_two text (omega (arith, length-take (length text - 1) text)); are_digits = d.0; factor_is = is; value_is = ap (λ v. v * f) d.1 ∙ r.0 }), r.1)

  from : (o : Option ℕ) → factor (get_or text (length text - 1) 0) ≡ o → option_map_or (λ f. option_and_then (λ m. fitting (m * f)) (number_of (take (length text - 1) text))) o (number_of text) ≡ Some n → IsAmount factor text n × (n < 2 ^ 64)
  from None is h = let d = number_is text n h in (inl (d.0, d.1), d.2)
  from (Some f) is h = scaled_from f is _ refl h

pub amount_from : (factor : ℕ → Option ℕ) (text : List ℕ) (n : ℕ) → amount_of factor text ≡ Some n → IsAmount factor text n × (n < 2 ^ 64)
unfolding amount_of
amount_from factor text n h = from factor text n _ refl h

-- the last byte of digits and a letter, and what stands in front of it
last_of : (digits : List ℕ) (letter : ℕ) → get_or (digits ++ (letter ∷ [])) (length (digits ++ (letter ∷ [])) - 1) 0 ≡ letter
last_of digits letter =
    let at : length (digits ++ (letter ∷ [])) - 1 ≡ length digits = omega (arith, length-append digits (letter ∷ [])) in
    rw at (get_or-append_seam digits letter [] 0)

front_of : (digits : List ℕ) (letter : ℕ) → take (length (digits ++ (letter ∷ [])) - 1) (digits ++ (letter ∷ [])) ≡ digits
front_of digits letter =
    let at : length (digits ++ (letter ∷ [])) - 1 ≡ length digits = omega (arith, length-append digits (letter ∷ [])) in
    rw at (take-append_seam digits (letter ∷ []))

fits : (m n : ℕ) → m ≡ n → n < 2 ^ 64 → fitting m ≡ Some n
fits m n e small = let less : m < 2 ^ 64 = omega arith in rw e (grind (arith, nat_tests))

value_of : (factor : ℕ → Option ℕ) (digits : List ℕ) (letter f n : ℕ) → factor letter ≡ Some f → number_of digits ≡ Some (decimal digits) → decimal digits * f ≡ n → n < 2 ^ 64 → amount_of factor (digits ++ (letter ∷ [])) ≡ Some n
unfolding amount_of
value_of factor digits letter f n is number e small =
    let last = last_of digits letter in
    let front = front_of digits letter in
    rw last (rw is (rw front (rw number (fits (decimal digits * f) n e small))))

-- an amount below the bound has its value
module _ (factor : ℕ → Option ℕ) (table : IsTable factor) (text : List ℕ) (n : ℕ) (small : n < 2 ^ 64) where
  plain : IsPlain text n → amount_of factor text ≡ Some n
  unfolding amount_of
  plain h =
      let none : factor (get_or text (length text - 1) 0) ≡ None = table.no_digit _ (last_digit text h.0) in
      let some = some_digits text h.0 in
      rw none (sym (spelled text some (all_digits text h.0) (omega (arith, h.1))) ∙ ap Some h.1)

  lettered : IsScaled factor text n → amount_of factor text ≡ Some n
  lettered h =
      let positive = table.positive h.letter h.factor h.factor_is in
      let less : decimal h.digits < 2 ^ 64 = omega (arith, le-mul_of_pos_right {m = h.factor} (decimal h.digits) positive, h.value_is) in
      let number = sym (spelled h.digits (some_digits h.digits h.are_digits) (all_digits h.digits h.are_digits) less) in
      rw h.text_is (value_of factor h.digits h.letter h.factor n h.factor_is number h.value_is small)

pub amount_to : (factor : ℕ → Option ℕ) → IsTable factor → (text : List ℕ) (n : ℕ) → IsAmount factor text n × (n < 2 ^ 64) → amount_of factor text ≡ Some n
amount_to factor table text n h = elim h.0 [
  | inl h1 ↦ plain factor table text n h.1 h1
  | inr h1 ↦ lettered factor table text n h.1 h1
]
