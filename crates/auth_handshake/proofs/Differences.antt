-- The bits in which numbers differ.
use Rattle.std.proofs.Common.{ℕ, ◌≡◌, ◌+◌, ◌%◌, ◌<◌, arith, sym, ◌∙◌, ap, List, get_or, below_more}
use Rattle.std.specs.Prelude.{bit_or, bit_xor}
use Rattle.std.specs.Int.{bit_at}
use Rattle.std.proofs.lemmas.Nat.{le_or_l, le_or_r}
use Rattle.std.proofs.lemmas.Nat.Bits.{bit_at-lt, bit_at-zero, bit_at_xor, same_from_bits}

-- bits gathered from two numbers are none where neither has one
or_none : (a b : ℕ) → bit_or a b ≡ 0 → (a ≡ 0) × (b ≡ 0)
or_none a b e = (omega (arith, le_or_l a b), omega (arith, le_or_r a b))

halves : (x y : ℕ) → x < 2 → y < 2 → (x + y) % 2 ≡ 0 → x ≡ y
halves x y p q e = omega arith

twice : (x : ℕ) → x < 2 → (x + x) % 2 ≡ 0
twice x p = omega arith

-- numbers that differ in no bit are one
xor_none : (a b : ℕ) → bit_xor a b ≡ 0 → a ≡ b
xor_none a b e = same_from_bits a b (λ i. halves (bit_at a i) (bit_at b i) (bit_at-lt a i) (bit_at-lt b i)
    (sym (bit_at_xor a b i) ∙ ap (λ (n : ℕ). bit_at n i) e ∙ bit_at-zero i))

-- a number doesn't differ from itself
xor_self : (a : ℕ) → bit_xor a a ≡ 0
xor_self a = same_from_bits (bit_xor a a) 0 (λ i. bit_at_xor a a i ∙ twice (bit_at a i) (bit_at-lt a i) ∙ sym (bit_at-zero i))

-- the numbers of two lists are the same up to n
abbrev pub SameBelow : List ℕ → List ℕ → ℕ → Type 0
SameBelow xs ys n = (k : ℕ) → k < n → get_or xs k 0 ≡ get_or ys k 0

-- the bits gathered are none exactly where the lists are the same so far
abbrev pub Gathered : ℕ → List ℕ → List ℕ → ℕ → Type 0
Gathered bits xs ys n = (bits ≡ 0 → SameBelow xs ys n) × (SameBelow xs ys n → bits ≡ 0)

-- gathering the bits in which the next numbers differ
pub gathers : (bits : ℕ) (xs ys : List ℕ) (n : ℕ) → Gathered bits xs ys n
    → Gathered (bit_or bits (bit_xor (get_or xs n 0) (get_or ys n 0))) xs ys (n + 1)
gathers bits xs ys n g = (
  λ e. (let parts = or_none bits (bit_xor (get_or xs n 0) (get_or ys n 0)) e in
      below_more _ _ (g.0 parts.0) (xor_none (get_or xs n 0) (get_or ys n 0) parts.1)),
  λ same.
      (let here : get_or xs n 0 ≡ get_or ys n 0 = same n (omega arith) in
      let none : bits ≡ 0 = g.1 (λ k h. same k (omega arith)) in
      rw (none, here) (xor_self (get_or ys n 0))),
)
