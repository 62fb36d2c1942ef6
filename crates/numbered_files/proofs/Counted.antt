-- A number is what its ten digits count.
use Rattle.std.proofs.Common.{ℕ, ◌≡◌, ◌+◌, ◌*◌, ◌/◌, ◌%◌, ◌<◌, ◌^◌, List, ◌∷◌, ◌++◌, length, get_or, refl, ap, sym, ◌∙◌, arith}
use Rattle.std.proofs.Math.Nat.{div-div-eq-div-mul, div-add-mod}
use Rattle.std.proofs.lemmas.List.{append_cancel_left, append_cancel_right}
use Rattle.numbered_files.specs.Names.{ten_digits, file_name}
use Rattle.numbered_files.specs.declared.family.Family.{Family}

-- a digit, and what is before it
step : (n power : ℕ) → 10 * (n / (power * 10)) + n / power % 10 ≡ n / power
step n power = ap (λ (q : ℕ). 10 * q + n / power % 10) (sym (div-div-eq-div-mul n power 10)) ∙ div-add-mod (n / power) 10

pub counts : (n : ℕ) → n < 2 ^ 32
    → (n / 1000000000 % 10 * 1000000000 + n / 100000000 % 10 * 100000000 + n / 10000000 % 10 * 10000000 + n / 1000000 % 10 * 1000000 + n / 100000 % 10 * 100000)
    + (n / 10000 % 10 * 10000 + n / 1000 % 10 * 1000 + n / 100 % 10 * 100 + n / 10 % 10 * 10 + n / 1 % 10) ≡ n
counts n h = omega (
  arith,
  step n 1,
  step n 10,
  step n 100,
  step n 1000,
  step n 10000,
  step n 100000,
  step n 1000000,
  step n 10000000,
  step n 100000000,
  step n 1000000000,
)

pub ten_long : (n : ℕ) → length (ten_digits n) ≡ 10
unfolding ten_digits
ten_long n = refl

-- the digits alone, each with what it says
pub digit_at : (t : List ℕ) (n : ℕ) → t ≡ ten_digits n
    → (get_or t 0 0 ≡ 48 + n / 1000000000 % 10) × (get_or t 1 0 ≡ 48 + n / 100000000 % 10) × (get_or t 2 0 ≡ 48 + n / 10000000 % 10)
    × (get_or t 3 0 ≡ 48 + n / 1000000 % 10) × (get_or t 4 0 ≡ 48 + n / 100000 % 10) × (get_or t 5 0 ≡ 48 + n / 10000 % 10)
    × (get_or t 6 0 ≡ 48 + n / 1000 % 10) × (get_or t 7 0 ≡ 48 + n / 100 % 10) × (get_or t 8 0 ≡ 48 + n / 10 % 10)
    × (get_or t 9 0 ≡ 48 + n / 1 % 10)
unfolding ten_digits
digit_at t n e = (
  ap (λ l. get_or l 0 0) e,
  ap (λ l. get_or l 1 0) e,
  ap (λ l. get_or l 2 0) e,
  ap (λ l. get_or l 3 0) e,
  ap (λ l. get_or l 4 0) e,
  ap (λ l. get_or l 5 0) e,
  ap (λ l. get_or l 6 0) e,
  ap (λ l. get_or l 7 0) e,
  ap (λ l. get_or l 8 0) e,
  ap (λ l. get_or l 9 0) e,
)

same : (x y : ℕ) → 48 + x ≡ 48 + y → x ≡ y
same x y e = omega arith

pub same_digits : (n m : ℕ) → n < 2 ^ 32 → m < 2 ^ 32 → ten_digits n ≡ ten_digits m → n ≡ m
unfolding ten_digits
same_digits n m hn hm e =
    let d0 = same (n / 1000000000 % 10) (m / 1000000000 % 10) (ap (λ l. get_or l 0 0) e) in
    let d1 = same (n / 100000000 % 10) (m / 100000000 % 10) (ap (λ l. get_or l 1 0) e) in
    let d2 = same (n / 10000000 % 10) (m / 10000000 % 10) (ap (λ l. get_or l 2 0) e) in
    let d3 = same (n / 1000000 % 10) (m / 1000000 % 10) (ap (λ l. get_or l 3 0) e) in
    let d4 = same (n / 100000 % 10) (m / 100000 % 10) (ap (λ l. get_or l 4 0) e) in
    let d5 = same (n / 10000 % 10) (m / 10000 % 10) (ap (λ l. get_or l 5 0) e) in
    let d6 = same (n / 1000 % 10) (m / 1000 % 10) (ap (λ l. get_or l 6 0) e) in
    let d7 = same (n / 100 % 10) (m / 100 % 10) (ap (λ l. get_or l 7 0) e) in
    let d8 = same (n / 10 % 10) (m / 10 % 10) (ap (λ l. get_or l 8 0) e) in
    let d9 = same (n / 1 % 10) (m / 1 % 10) (ap (λ l. get_or l 9 0) e) in
    cc (counts n hn, counts m hm)

pub differ : (family : Family) (n m : ℕ) → n < 2 ^ 32 → m < 2 ^ 32 → file_name family n ≡ file_name family m → n ≡ m
differ family n m hn hm e =
    let behind = append_cancel_left family.path.now (46 ∷ (ten_digits n ++ 46 ∷ family.kind.now)) (46 ∷ (ten_digits m ++ 46 ∷ family.kind.now)) e in
    let digits : ten_digits n ++ 46 ∷ family.kind.now ≡ ten_digits m ++ 46 ∷ family.kind.now = cc in
    same_digits n m hn hm (append_cancel_right (ten_digits n) (ten_digits m) (46 ∷ family.kind.now) digits)
