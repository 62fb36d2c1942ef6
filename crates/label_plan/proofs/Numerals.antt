-- Numbers and their digits.
use Rattle.std.proofs.Common.{◌≡◌, ◌≢◌, ◌<◌, ◌^◌, not, ℕ, zero, suc, true, List, [], ◌∷◌, length, get_or, Result, Ok, Err, refl, sym, ap, ◌∙◌, arith, decimal}
use Rattle.std.specs.Result.{OkIff}
use Rattle.std.specs.Str.Parse.{AllDigits, digits_value, ParsesUnsigned}
use Rattle.std.proofs.lemmas.Str.Parse.{IsNumeralModel, numerals_by_value, tells_digits, parse_plain, digit_at}
use Rattle.std.proofs.lemmas.Fmt.{decimal_is_IsNumeral, decimal_digit, decimal_nonempty, first_decimal, decimal-digits_value, parse-decimal}
use Rattle.label_plan.specs.Reading.{can_begin, HasNoColon}
use Rattle.label_plan.proofs.Bools.{both, differ, not_so, unequal}

-- what std says of digits
model : IsNumeralModel (AllDigits 10) (digits_value 10)
model = numerals_by_value (AllDigits 10) tells_digits

-- a printed number has digits alone
pub decimal_has_no_colon : (n : ℕ) → n < 2 ^ 64 → HasNoColon (decimal n)
decimal_has_no_colon n small i less is = let digit = digit_at (decimal n) i (decimal_is_IsNumeral n small).0.1 less in absurd (omega (arith, digit, is))

-- what begins so has no sign, and no zero in front of more
pub began : (text : List ℕ) → can_begin text ≡ true → (get_or text 0 0 ≢ 43) × (get_or text 0 0 ≡ 48 → length text ≡ 1)
began [] h = absurd (cc)
began (first ∷ []) h = (differ first 43 (not_so _ h), λ zero. refl)
began (first ∷ second ∷ rest) h =
    let parts = both _ _ h in (differ first 43 (not_so _ parts.0), λ zero. absurd (differ first 48 (not_so _ parts.1) zero))

-- what begins with a digit but zero begins so
begins : (text : List ℕ) → 0 < length text → 48 < get_or text 0 0 → can_begin text ≡ true
begins [] some first = absurd (omega (arith, some))
begins (a ∷ []) some first = ap not (unequal a 43 (λ e. absurd (omega (arith, first, e))))
begins (a ∷ b ∷ rest) some first =
    let sign = unequal a 43 (λ e. absurd (omega (arith, first, e))) in let zero = unequal a 48 (λ e. absurd (omega (arith, first, e))) in rw (sign, zero) refl

-- a printed number begins so
pub can_begin_decimal : (n : ℕ) → n < 2 ^ 64 → can_begin (decimal n) ≡ true
can_begin_decimal zero small = let digit : decimal 0 ≡ 48 ∷ [] = decimal_digit 0 (omega arith) in rw digit refl
can_begin_decimal (suc n) small = begins (decimal (suc n)) (decimal_nonempty (suc n) small) (first_decimal (suc n) (omega arith) small)

-- digits that begin so are printed for the number that is read off them
pub parsed_decimal : {E : Type 0} (text : List ℕ) (n : ℕ) (r : Result ℕ E) → can_begin text ≡ true → r ≡ Ok n → ParsesUnsigned 64 10 text r → decimal n ≡ text
parsed_decimal {E} text n r so is parses =
    let front = began text so in
    let read : OkIff r (AllDigits 10 text × (0 < length text) × (digits_value 10 text < 2 ^ 64)) (digits_value 10 text) = parse_plain model 64 text r parses front.0 in
    let found : (AllDigits 10 text × (0 < length text) × (digits_value 10 text < 2 ^ 64)) × (n ≡ digits_value 10 text) = rw is at read in
    ap decimal found.1 ∙ decimal-digits_value model text found.0.0 found.0.1 front.1 found.0.2

-- a printed number is read
pub decimal_parsed : {E : Type 0} (text : List ℕ) (n : ℕ) (r : Result ℕ E) (e : E) → n < 2 ^ 64 → decimal n ≡ text → ParsesUnsigned 64 10 text r → r ≢ Err e
decimal_parsed text n r e small is parses refused = let read : r ≡ Ok n = parse-decimal 64 n text r small small (sym is) parses in absurd (cc)
