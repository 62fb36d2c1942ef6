use Rattle.std.proofs.Common.{ℕ, ◌≡◌, ◌+◌, ◌*◌, ◌/◌, ◌%◌, ◌<◌, ◌∙◌, length, ap, arith, Some}
use Rattle.numbered_files.proofs.Counted.{counts, ten_long, digit_at}
use Rattle.numbered_files.proofs.digits.counted.Goals as goal

-- ten counts that are the digits
sum_of : (n : ℕ) → n < 4294967296 → (a b c d e f g h i j : ℕ)
    → a ≡ n / 1000000000 % 10 → b ≡ n / 100000000 % 10 → c ≡ n / 10000000 % 10 → d ≡ n / 1000000 % 10 → e ≡ n / 100000 % 10
    → f ≡ n / 10000 % 10 → g ≡ n / 1000 % 10 → h ≡ n / 100 % 10 → i ≡ n / 10 % 10 → j ≡ n / 1 % 10
    → a * 1000000000 + b * 100000000 + c * 10000000 + d * 1000000 + e * 100000 + (f * 10000 + g * 1000 + h * 100 + i * 10 + j) ≡ n
sum_of n small a b c d e f g h i j ea eb ec ed ee ef eg eh ei ej = cc (counts n small)

small : (x : ℕ) → x % 10 < 10
small x = omega arith

pub returns-in_default : goal.returns-in_default
returns-in_default c n h e = let l = ap length e ∙ ten_long n in absurd (omega arith)

pub returns-in_default-2 : goal.returns-in_default-2
returns-in_default-2 c n h e = let l = ap length e ∙ ten_long n in absurd (omega arith)

pub returns-then-number-from : goal.returns-then-number-from
returns-then-number-from c n h e =
    let d = digit_at c.args.text.now n e in
    let sum = sum_of n h _ _ _ _ _ _ _ _ _ _
    (c.count_of.ensures.digit _ d.0 (small _)) (c.count_of-2.ensures.digit _ d.1 (small _)) (c.count_of-3.ensures.digit _ d.2 (small _))
    (c.count_of-4.ensures.digit _ d.3 (small _)) (c.count_of-5.ensures.digit _ d.4 (small _)) (c.count_of-6.ensures.digit _ d.5 (small _))
    (c.count_of-7.ensures.digit _ d.6 (small _)) (c.count_of-8.ensures.digit _ d.7 (small _)) (c.count_of-9.ensures.digit _ d.8 (small _))
    (c.count_of-10.ensures.digit _ d.9 (small _)) in
    absurd (omega (arith, sum, h))

pub returns : goal.returns
returns c n h e =
    let d = digit_at c.args.text.now n e in
    ap Some (sum_of n h _ _ _ _ _ _ _ _ _ _
    (c.count_of.ensures.digit _ d.0 (small _)) (c.count_of-2.ensures.digit _ d.1 (small _)) (c.count_of-3.ensures.digit _ d.2 (small _))
    (c.count_of-4.ensures.digit _ d.3 (small _)) (c.count_of-5.ensures.digit _ d.4 (small _)) (c.count_of-6.ensures.digit _ d.5 (small _))
    (c.count_of-7.ensures.digit _ d.6 (small _)) (c.count_of-8.ensures.digit _ d.7 (small _)) (c.count_of-9.ensures.digit _ d.8 (small _))
    (c.count_of-10.ensures.digit _ d.9 (small _)))
