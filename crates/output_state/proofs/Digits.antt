-- What is written of a number is read as it.
use Rattle.std.proofs.Common.{◌≡◌, ℕ, ◌+◌, ◌-◌, ◌*◌, ◌/◌, ◌%◌, ◌<◌, ◌≤◌, ◌^◌, true, List, [], ◌∷◌, ◌++◌, length, decimal, Some, sym, ap, ◌∙◌, arith}
use Rattle.std.specs.List.{list_all}
use Rattle.std.specs.Char.{is_ascii_digit}
use Rattle.std.proofs.lemmas.Bool.Decides.{nat_tests}
use Rattle.std.proofs.lemmas.Fmt.{decimal_by_steps}
use Rattle.std.proofs.lemmas.List.{length-append}
use Rattle.std.proofs.lemmas.List.Folds.{list_all-append}
use Rattle.std.proofs.lemmas.List.Sums.{fold-append}
use Rattle.conf_values.specs.Numbers.{decimal as value, number_of}
use Rattle.conf_values.proofs.Numbers.{spelled}

-- one or more digits of this value
record AreDigitsOf (n : ℕ) (digits : List ℕ) : Type 0 where
  are : list_all is_ascii_digit digits ≡ true
  some : 0 < length digits
  value_is : value digits ≡ n

one : (n : ℕ) → n < 10 → AreDigitsOf n ((48 + n) ∷ [])
unfolding value
one n h = record {
  are = grind (arith, nat_tests);
  some = omega arith;
  value_is = omega arith;
}

more : (n : ℕ) (digits : List ℕ) → 10 ≤ n → AreDigitsOf (n / 10) digits → AreDigitsOf n (digits ++ ((48 + n % 10) ∷ []))
unfolding value
more n digits h front = record {
  are = let both = list_all-append is_ascii_digit digits ((48 + n % 10) ∷ []) in let so = front.are in grind (arith, nat_tests);
  some = omega (arith, length-append digits ((48 + n % 10) ∷ []));
  value_is = fold-append (λ n digit. 10 * n + (digit - 48)) 0 digits ((48 + n % 10) ∷ []) ∙ (let so = front.value_is in omega arith);
}

digits_of : (n : ℕ) → n < 2 ^ 64 → AreDigitsOf n (decimal n)
digits_of n small = decimal_by_steps AreDigitsOf one more n small

pub digits_written : (n : ℕ) → n < 2 ^ 64 → list_all is_ascii_digit (decimal n) ≡ true
digits_written n small = (digits_of n small).are

pub number_written : (n : ℕ) → n < 2 ^ 64 → number_of (decimal n) ≡ Some n
number_written n small =
    let d = digits_of n small in
    let fits : value (decimal n) < 2 ^ 64 = omega (arith, d.value_is) in
    sym (spelled (decimal n) d.some d.are fits) ∙ ap Some d.value_is
