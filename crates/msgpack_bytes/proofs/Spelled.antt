-- What is written is an item, and none shorter says the same.
use Rattle.std.proofs.Common.{ℕ, zero, suc, ◌≡◌, ◌+◌, ◌-◌, ◌≤◌, List, [], ◌∷◌, ◌++◌, take, drop, refl, ap, ◌∙◌, arith, append_assoc, zero-add, suc-add}
use Rattle.std.proofs.lemmas.List.{take_rest}
use Rattle.std.specs.Int.{bytes_high_first}

-- the lowest bytes are the last
pub high_tail : (j k n : ℕ) → drop j (bytes_high_first (j + k) n) ≡ bytes_high_first k n
high_tail zero k n = rw (zero-add k) refl
high_tail (suc j) k n = rw (suc-add j k) (high_tail j k n)

pub high_eight : (width n : ℕ) → width ≤ 8 → drop (8 - width) (bytes_high_first 8 n) ≡ bytes_high_first width n
high_eight width n h =
    let e : 8 ≡ (8 - width) + width = omega arith in
    ap (λ (k : ℕ). drop (8 - width) (bytes_high_first k n)) e ∙ high_tail (8 - width) width n

pub appended : (old one two three content tail lowest : List ℕ) (first : ℕ) → one ≡ old ++ first ∷ [] → two ≡ one ++ tail → three ≡ two ++ content → tail ≡ lowest → three ≡ old ++ first ∷ (lowest ++ content)
appended old one two three content tail lowest first a b c d = rw (c, b, a, d, append_assoc (old ++ first ∷ []) lowest content) (append_assoc old (first ∷ []) (lowest ++ content))

pub tail_of : (bytes : List ℕ) (width n : ℕ) → width ≤ 8 → bytes ≡ bytes_high_first 8 n → take (8 - (8 - width)) (drop (8 - width) bytes) ≡ bytes_high_first width n
tail_of bytes width n h e = rw e (take_rest (bytes_high_first 8 n) (8 - width) ∙ high_eight width n h)
