-- Powers and products that stay at the greatest u64.
use Rattle.std.proofs.Common.{◌≡◌, ℕ, ◌+◌, ◌*◌, ◌-◌, ◌^◌, ◌≤◌, sym, ap, ◌∙◌, arith, zero, suc}
use Rattle.std.specs.Prelude.{min}
use Rattle.std.proofs.lemmas.Bool.{cases_lt}
use Rattle.std.proofs.Math.Nat.{pow-zero, pow-suc, pow-le-pow_left, pow-le-pow_right, le_trans, le_refl, le_of_lt, min-eq_left, min-eq_right, mul-zero, zero-mul, mul-le-mul_right}
use Rattle.std.proofs.Math.Logic.{⊎_elim}

-- the greatest u64
abbrev greatest : ℕ
greatest = 2 ^ 64 - 1

power_of_none : (e : ℕ) → 0 ^ (suc e) ≡ 0
power_of_none e = pow-suc 0 e ∙ mul-zero (0 ^ e)

power_of_one : (e : ℕ) → 1 ^ e ≡ 1
power_of_one zero = pow-zero 1
power_of_one (suc e) = pow-suc 1 e ∙ ap (λ n. n * 1) (power_of_one e)

-- a base of two or more passes every u64 from the 64th power on
power_past : (b e : ℕ) → 2 ≤ b → 64 ≤ e → 2 ^ 64 ≤ b ^ e
power_past b e two far = le_trans (pow-le-pow_left two 64) (pow-le-pow_right {n = b} (omega arith) far)

-- numbers that are past the greatest are both cut to it
both_cut : (m n : ℕ) → greatest ≤ m → greatest ≤ n → min m greatest ≡ min n greatest
both_cut m n p q = min-eq_right p ∙ sym (min-eq_right q)

-- from the 64th power on all are the same, once they are cut
far_power : (b e : ℕ) → min (b ^ 64) greatest ≡ min (b ^ (64 + e)) greatest
far_power zero e = ap (λ n. min n greatest) (sym (power_of_none (63 + e)) ∙ ap (λ n. 0 ^ n) (omega arith))
far_power (suc zero) e = ap (λ n. min n greatest) (sym (power_of_one (64 + e)))
far_power (suc (suc b)) e =
    let two : 2 ≤ suc (suc b) = omega arith in
    let p = power_past (suc (suc b)) 64 two (omega arith) in
    let q = power_past (suc (suc b)) (64 + e) two (omega arith) in
    both_cut _ _ (omega (arith, p)) (omega (arith, q))

-- powers past the 64th needn't be told apart
same_power : (b e : ℕ) → min (b ^ min e 64) greatest ≡ min (b ^ e) greatest
same_power b e = ⊎_elim
    (λ far. ap (λ n. min (b ^ n) greatest) (min-eq_right (le_of_lt far)) ∙ far_power b (e - 64) ∙ ap (λ n. min (b ^ n) greatest) (omega arith))
    (λ near. ap (λ n. min (b ^ n) greatest) (min-eq_left near))
    (cases_lt 64 e)

-- what is past the greatest stays so when it is multiplied
times : (w n : ℕ) → greatest ≤ n → greatest ≤ suc w * n
times w n h = let more = mul-le-mul_right {m = 1} {n = suc w} n (omega arith) in omega (arith, h, more)

-- a factor may be cut before the product is
same_product : (w p : ℕ) → min (w * min p greatest) greatest ≡ min (w * p) greatest
same_product zero p = ap (λ n. min n greatest) (zero-mul (min p greatest) ∙ sym (zero-mul p))
same_product (suc w) p = ⊎_elim
    (λ past. ap (λ n. min (suc w * n) greatest) (min-eq_right (le_of_lt past)) ∙ both_cut _ _ (times w greatest (le_refl greatest)) (times w p (le_of_lt past)))
    (λ within. ap (λ n. min (suc w * n) greatest) (min-eq_left within))
    (cases_lt greatest p)

-- the product of a number and a power, each cut at the greatest, is the whole product cut there
pub cut_product : (w b e : ℕ) → min (w * min (b ^ min e 64) greatest) greatest ≡ min (w * b ^ e) greatest
cut_product w b e = ap (λ p. min (w * p) greatest) (same_power b e) ∙ same_product w (b ^ e)

-- a limit and the greatest may change places
pub cut_within : (n most : ℕ) → min (min n greatest) most ≡ min (min n most) greatest
cut_within n most = omega arith
