-- Seconds with nine places behind the point are a number of JSON.
use Rattle.std.proofs.Common.{ℕ, zero, suc, ℤ, ◌≡◌, ◌+◌, ◌/◌, ◌%◌, ◌^◌, ◌<◌, true, false, List, [], ◌∷◌, ◌++◌, length, get_or, decimal, unsigned_abs, refl, sym, ap, ◌∙◌, arith, append_assoc, append-nil}
use Rattle.std.specs.Fmt.{sign_text}
use Rattle.std.specs.Int.{is_negative}
use Rattle.std.specs.Str.Parse.{AllDigits}
use Rattle.std.proofs.lemmas.Fmt.{decimal_by_steps_wide, decimal_digit, decimal_is_IsNumeral_wide}
use Rattle.std.proofs.lemmas.List.{get_or_append_left, length-append}
use Rattle.fast_float.specs.Text.{Parts}
use Rattle.ryu.specs.Plain.{IsPlain}
use Rattle.json.specs.Print.{IsNumber}
use Rattle.json.proofs.Printed.Floats.{IsNumber-plain}
use Rattle.folder_counts.specs.Times.{nine_digits, second, seconds_text}

-- ---- nine digits

all_append : (front behind : List ℕ) → AllDigits 10 front → AllDigits 10 behind → AllDigits 10 (front ++ behind)
all_append [] behind all more = more
all_append (x ∷ front) behind all more = (all.0, all_append front behind all.1 more)

digit : (n : ℕ) → AllDigits 10 (decimal (n % 10))
digit n = (decimal_is_IsNumeral_wide (n % 10) (omega arith)).0.1

then_digit : (front : List ℕ) (n : ℕ) → AllDigits 10 front → AllDigits 10 (front ++ decimal (n % 10))
then_digit front n all = all_append front (decimal (n % 10)) all (digit n)

nine_all : (n : ℕ) → AllDigits 10 (nine_digits n)
nine_all n =
    let two = then_digit _ (n / 10000000) (digit (n / 100000000)) in
    let five = then_digit _ (n / 10000) (then_digit _ (n / 100000) (then_digit _ (n / 1000000) two)) in
    then_digit _ n (then_digit _ (n / 10) (then_digit _ (n / 100) (then_digit _ (n / 1000) five)))

some_digits : (front : List ℕ) (n : ℕ) → 0 < length (front ++ decimal (n % 10))
some_digits front n = omega (arith, length-append front (decimal (n % 10)), (decimal_is_IsNumeral_wide (n % 10) (omega arith)).0.0)

nine_some : (n : ℕ) → 0 < length (nine_digits n)
nine_some n = some_digits _ n

-- ---- the whole seconds

first_above : (n : ℕ) → 0 < n → n < 10 ^ 64 → 48 < get_or (decimal n) 0 0
first_above n some small = (decimal_by_steps_wide (λ m ds. (0 < length ds) × (0 < m → 48 < get_or ds 0 0)) (λ m l. (omega arith, λ a. omega arith))
    (λ m ds l h. (omega (arith, length-append ds ((48 + m % 10) ∷ [])), λ a. omega (arith, get_or_append_left ds ((48 + m % 10) ∷ []) 0 0 h.0, h.1 (omega arith)))) n small).1 some

no_zero : (n : ℕ) → n < 10 ^ 64 → get_or (decimal n) 0 0 ≡ 48 → length (decimal n) ≡ 1
no_zero zero small first = ap length (decimal_digit 0 (omega arith))
no_zero (suc n) small first = absurd (omega (arith, first, first_above (suc n) (omega arith) small))

-- ---- both

parts_of : ℕ → ℕ → Parts
parts_of whole part = record { whole = decimal whole; point = true; fraction = nine_digits part; exponent_negative = false; exponent = []; len = length (decimal whole ++ ((46 ∷ nine_digits part) ++ [])) }

plain : (whole part : ℕ) → whole < 10 ^ 64 → IsPlain (parts_of whole part)
unfolding parts_of
plain whole part small =
    let is = (decimal_is_IsNumeral_wide whole small).0 in
    record {
      well_formed = record {
        whole_digits = is.1;
        fraction_digits = nine_all part;
        exponent_digits = tt;
        no_point = λ e. absurd (cc e);
        no_exponent = λ e. refl;
        len_is = refl;
      };
      whole = is.0;
      no_leading_zero = no_zero whole small;
      fraction = λ e. nine_some part;
      marked = λ e. absurd (cc e);
    }

pub number_seconds : (nanos : ℤ) → unsigned_abs nanos < 10 ^ 64 → IsNumber (seconds_text nanos)
unfolding parts_of
number_seconds nanos small =
    let whole = unsigned_abs nanos / second in
    let part = unsigned_abs nanos % second in
    let sign = sign_text (is_negative nanos) in
    IsNumber-plain (seconds_text nanos) (
      is_negative nanos,
      parts_of whole part,
      ap (λ z. sign ++ z) (append_assoc (decimal whole) (46 ∷ []) (nine_digits part) ∙ ap (λ z. decimal whole ++ z) (sym (append-nil (46 ∷ nine_digits part)))),
      plain whole part (omega (arith, small)),
    )
