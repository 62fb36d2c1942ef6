-- What digits spell.
use Rattle.std.proofs.Common.{◌≡◌, ℕ, ◌+◌, ◌-◌, ◌*◌, ◌^◌, ◌<◌, ◌≤◌, true, false, length, get_or, take, drop, List, [], ◌∷◌, ◌++◌, None, Some, ap, arith, refl}
use Rattle.std.specs.List.{list_all, fold}
use Rattle.std.specs.Char.{is_ascii_digit}
use Rattle.std.proofs.lemmas.List.{take-append-drop}
use Rattle.std.proofs.lemmas.List.Sums.{fold_more, fold-append}
use Rattle.std.proofs.lemmas.Bool.Decides.{nat_tests}
use Rattle.conf_values.specs.Numbers.{decimal, number_of}

-- further digits make a value no smaller
grows : (a : ℕ) (text : List ℕ) → a ≤ fold (λ n digit. 10 * n + (digit - 48)) a text
grows a [] = omega arith
grows a (d ∷ text) = let e = grows (10 * a + (d - 48)) text in omega (arith, e)

-- the digits in front have no greater value than all
front-le : (text : List ℕ) (i : ℕ) → decimal (take i text) ≤ decimal text
unfolding decimal
front-le text i =
    let whole : fold (λ n digit. 10 * n + (digit - 48)) 0 (take i text ++ drop i text) ≡ fold (λ n digit. 10 * n + (digit - 48)) (fold (λ n digit. 10 * n + (digit - 48)) 0 (take i text)) (drop i text) = fold-append (λ n digit. 10 * n + (digit - 48)) 0 (take i text) (drop i text) in
    let same = ap (fold (λ n digit. 10 * n + (digit - 48)) 0) (take-append-drop i text) in
    let more = grows (fold (λ n digit. 10 * n + (digit - 48)) 0 (take i text)) (drop i text) in
    omega (arith, whole, same, more)

-- one more digit
pub decimal_more : (text : List ℕ) (i : ℕ) → i < length text → decimal (take (i + 1) text) ≡ 10 * decimal (take i text) + (get_or text i 0 - 48)
unfolding decimal
decimal_more text i l = fold_more (λ n d. 10 * n + (d - 48)) 0 text i 0 l

pub decimal_nil : decimal [] ≡ 0
unfolding decimal
decimal_nil = refl

-- a text with another byte spells no number
pub not_digits : (text : List ℕ) → list_all is_ascii_digit text ≡ false → None ≡ number_of text
unfolding number_of
not_digits text h = grind (arith, nat_tests)

pub nothing : (text : List ℕ) → length text ≡ 0 → None ≡ number_of text
unfolding number_of
nothing text h = grind (arith, nat_tests)

too_large : (text : List ℕ) → 2 ^ 64 ≤ decimal text → None ≡ number_of text
unfolding number_of
too_large text h = grind (arith, nat_tests)

-- a text whose front is past the bound spells no number
pub front_too_large : (text : List ℕ) (i : ℕ) → 2 ^ 64 ≤ decimal (take i text) → None ≡ number_of text
front_too_large text i h = too_large text (omega (arith, front-le text i))

pub spelled : (text : List ℕ) → 0 < length text → list_all is_ascii_digit text ≡ true → decimal text < 2 ^ 64 → Some (decimal text) ≡ number_of text
unfolding number_of
spelled text some digits small = grind (arith, nat_tests)
