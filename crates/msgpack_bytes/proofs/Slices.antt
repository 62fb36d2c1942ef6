-- Tests of numbers, and parts of lists.
use Rattle.std.proofs.Common.{ℕ, zero, suc, ◌≡◌, ◌+◌, ◌-◌, ◌<◌, ◌≤◌, Bool, true, false, List, [], ◌∷◌, ◌++◌, length, take, drop, slice_range, slice_index, get_or, nat_lt, nat_le, cond, refl, ap, sym, ◌∙◌, arith, ◌⊎◌, inl, inr, length-drop}
use Rattle.std.proofs.lemmas.Grind.{common_steps}
use Rattle.std.proofs.Math.Seq.{take-add}
use Rattle.std.proofs.lemmas.List.{drop-drop, drop_at, take_at, length-take, take-append-drop, get_or-drop, drop_more}

pub less : (a b : ℕ) → nat_lt a b ≡ true → a < b
less a b h = grind (arith, common_steps)

pub not_less : (a b : ℕ) → nat_lt a b ≡ false → b ≤ a
not_less a b h = grind (arith, common_steps)

pub less_true : (a b : ℕ) → a < b → nat_lt a b ≡ true
less_true a b h = grind (arith, common_steps)

pub less_false : (a b : ℕ) → b ≤ a → nat_lt a b ≡ false
less_false a b h = grind (arith, common_steps)

-- which way a test went
pub cond_case : {A : Type 0} (b : Bool) (x y z : A) → cond b x y ≡ z → ((b ≡ true) × (x ≡ z)) ⊎ ((b ≡ false) × (y ≡ z))
cond_case true x y z e = inl (refl, e)
cond_case false x y z e = inr (refl, e)

-- the bytes behind a front
pub drop_behind : (bytes front back : List ℕ) (at i : ℕ) → drop at bytes ≡ front ++ back → i ≡ at + length front → drop i bytes ≡ back
drop_behind bytes front back at i e f = rw (f, ← drop-drop (length front) at bytes, e) (drop_at front back (length front) refl)

-- the bytes of a front
pub slice_front : (bytes front back : List ℕ) (at end : ℕ) → drop at bytes ≡ front ++ back → end ≡ at + length front → slice_range bytes at end ≡ front
slice_front bytes front back at end e f =
    let n : end - at ≡ length front = omega arith in
    rw (n, e) (take_at front back (length front) refl)

-- the bytes of a middle
pub slice_middle : (bytes front middle back : List ℕ) (at start end : ℕ) → drop at bytes ≡ front ++ (middle ++ back) → start ≡ at + length front → end ≡ start + length middle → slice_range bytes start end ≡ middle
slice_middle bytes front middle back at start end e f g = slice_front bytes middle back start end (drop_behind bytes front (middle ++ back) at start e f) g

pub slice_length : (bytes : List ℕ) (start end : ℕ) → start ≤ end → end ≤ length bytes → length (slice_range bytes start end) ≡ end - start
slice_length bytes start end h k =
    let l = length-take (end - start) (drop start bytes) in
    let m = length-drop start bytes in
    omega arith

-- the bytes from `at` on are those up to `end` and those behind
pub slice_then : (bytes : List ℕ) (at end : ℕ) → drop at bytes ≡ slice_range bytes at end ++ drop (end - at) (drop at bytes)
slice_then bytes at end = sym (take-append-drop (end - at) (drop at bytes))

take_first : (n byte : ℕ) (xs ys : List ℕ) → take n xs ≡ byte ∷ ys → slice_index xs 0 ≡ byte
take_first zero byte xs ys e = absurd (cc)
take_first (suc n) byte [] ys e = absurd (cc)
take_first (suc n) byte (x ∷ xs) ys e = cc

-- the first byte of a slice
pub slice_first : (bytes rest : List ℕ) (byte start end : ℕ) → slice_range bytes start end ≡ byte ∷ rest → slice_index bytes start ≡ byte
slice_first bytes rest byte start end e =
    let here : slice_index (drop start bytes) 0 ≡ slice_index bytes (start + 0) = get_or-drop start bytes 0 0 in
    let same : slice_index bytes (start + 0) ≡ slice_index bytes start = ap (slice_index bytes) (omega arith) in
    sym (here ∙ same) ∙ take_first (end - start) byte (drop start bytes) rest e

-- a slice is its first byte and the others
pub slice_cons : (bytes : List ℕ) (start end : ℕ) → start < end → end ≤ length bytes → slice_range bytes start end ≡ slice_index bytes start ∷ slice_range bytes (start + 1) end
slice_cons bytes start end h k =
    let within : start < length bytes = omega arith in
    let n : end - start ≡ suc (end - (start + 1)) = omega arith in
    rw (n, drop_more bytes start 0 within) refl

-- the bytes from an index on are the byte there and those behind it
pub drop_first : (bytes : List ℕ) (at byte : ℕ) → at < length bytes → ((d : ℕ) → byte ≡ get_or bytes at d) → drop at bytes ≡ byte ∷ drop (at + 1) bytes
drop_first bytes at byte lt e = drop_more bytes at byte lt ∙ rw (← e byte) refl

-- the bytes from `at` on, up to an index and from it on
pub slice_rest : (bytes : List ℕ) (at i : ℕ) → at ≤ i → drop at bytes ≡ slice_range bytes at i ++ drop i bytes
slice_rest bytes at i h =
    let n : at + (i - at) ≡ i = omega arith in
    slice_then bytes at i ∙ ap (λ (xs : List ℕ). slice_range bytes at i ++ xs) (drop-drop (i - at) at bytes ∙ ap (λ (j : ℕ). drop j bytes) n)

-- a slice that goes on
pub slice_on : (bytes : List ℕ) (at i n : ℕ) → at ≤ i → slice_range bytes at (i + n) ≡ slice_range bytes at i ++ take n (drop i bytes)
slice_on bytes at i n h =
    let split : i + n - at ≡ (i - at) + n = omega arith in
    let same : at + (i - at) ≡ i = omega arith in
    rw split (take-add (i - at) n (drop at bytes) ∙ ap (λ (xs : List ℕ). slice_range bytes at i ++ take n xs) (drop-drop (i - at) at bytes ∙ ap (λ (j : ℕ). drop j bytes) same))

pub at_most_true : (a b : ℕ) → a ≤ b → nat_le a b ≡ true
at_most_true a b h = grind (arith, common_steps)

pub at_most : (a b : ℕ) → nat_le a b ≡ true → a ≤ b
at_most a b h = grind (arith, common_steps)

pub not_at_most : (a b : ℕ) → nat_le a b ≡ false → b < a
not_at_most a b h = grind (arith, common_steps)
