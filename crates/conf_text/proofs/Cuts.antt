-- Where a text may be cut: beside a blank.
use Rattle.std.proofs.Common.{◌≡◌, ℕ, suc, add-one, ◌-◌, ◌+◌, ◌<◌, ◌≤◌, Bool, true, false, cond, eqb, ◌&&◌, not, List, [], ◌∷◌, length, get_or, drop, refl, subst, inl, inr, arith}
use Rattle.std.specs.Prelude.{reverse}
use Rattle.std.specs.Str.{IsUtf8, IsCharBoundary}
use Rattle.std.specs.List.{prefix_len, suffix_len, position_or_len}
use Rattle.std.proofs.lemmas.Str.{IsCharBoundary-before_ascii, IsCharBoundary-after_ascii, IsCharBoundary-end, IsCharBoundary-start}
use Rattle.std.proofs.lemmas.Bool.{cases_lt}
use Rattle.std.proofs.lemmas.Bool.Decides.{nat_tests}
use Rattle.std.proofs.lemmas.List.{get_or-reverse, length-drop}
use Rattle.std.proofs.lemmas.List.Sums.{prefix_len_passes, prefix_len-le-length, suffix_len-le-length, passes_at_first}
use Rattle.std.proofs.Math.Seq.{drop-cons}
use Rattle.conf_text.specs.Text.{is_blank, comment_at}

pub blank_is_ascii : (b : ℕ) → is_blank b ≡ true → b < 128
blank_is_ascii b h = grind (arith, nat_tests)

-- a text may be cut behind a byte that is below 128, and at its start
pub cut_behind : (bs : List ℕ) (n : ℕ) → IsUtf8 bs → n ≤ length bs → (0 < n → get_or bs (n - 1) 0 < 128) → IsCharBoundary bs n
cut_behind bs n u le low =
    elim (cases_lt 0 n) [
      | inl lt ↦ subst (λ (k : ℕ). IsCharBoundary bs k) (omega arith) (IsCharBoundary-after_ascii bs (n - 1) u (omega arith) (low lt))
      | inr ge ↦ subst (λ (k : ℕ). IsCharBoundary bs k) (omega arith) (IsCharBoundary-start bs u)
    ]

-- and before one
pub cut_before : (bs : List ℕ) (n : ℕ) → n ≤ length bs → (n < length bs → get_or bs n 0 < 128) → IsCharBoundary bs n
cut_before bs n le low =
    elim (cases_lt n (length bs)) [
      | inl lt ↦ IsCharBoundary-before_ascii bs n lt (low lt)
      | inr ge ↦ subst (λ (k : ℕ). IsCharBoundary bs k) (omega arith) (IsCharBoundary-end bs)
    ]

pub cut_blanks_before : (bs : List ℕ) → IsUtf8 bs → IsCharBoundary bs (prefix_len is_blank bs)
cut_blanks_before bs u = cut_behind bs (prefix_len is_blank bs) u (prefix_len-le-length is_blank bs) (λ lt. blank_is_ascii _ (prefix_len_passes is_blank bs (prefix_len is_blank bs - 1) 0 (omega arith)))

pub cut_blanks_behind : (bs : List ℕ) → IsCharBoundary bs (length bs - suffix_len is_blank bs)
cut_blanks_behind bs =
    cut_before bs (length bs - suffix_len is_blank bs) (omega arith) (λ lt.
    let some : 0 < suffix_len is_blank bs = omega arith in
    let le = suffix_len-le-length is_blank bs in
    let passes = prefix_len_passes is_blank (reverse bs) (suffix_len is_blank bs - 1) 0 (omega arith) in
    let turned = get_or-reverse bs (suffix_len is_blank bs - 1) 0 (omega arith) in
    let place : length bs - 1 - (suffix_len is_blank bs - 1) ≡ length bs - suffix_len is_blank bs = omega arith in
    blank_is_ascii _ (subst (λ (k : ℕ). is_blank (get_or bs k 0) ≡ true) place (subst (λ (b : ℕ). is_blank b ≡ true) turned passes)))

pub cut_word : (bs : List ℕ) → IsCharBoundary bs (position_or_len is_blank bs)
cut_word bs = cut_before bs (position_or_len is_blank bs) (prefix_len-le-length (λ b. not (is_blank b)) bs) (λ lt. blank_is_ascii _ (passes_at_first is_blank bs 0 lt))

-- one step of the search for a comment
pub comment_step : (bs : List ℕ) (i : ℕ) → suc i < length bs → comment_at (drop i bs) ≡ cond (is_blank (get_or bs i 0) && eqb (get_or bs (suc i) 0) 35) 1 (comment_at (drop (suc i) bs) + 1)
unfolding comment_at
comment_step bs i lt =
    let here : i < length bs = omega arith in
    rw (drop-cons bs i 0 here, drop-cons bs (suc i) 0 lt) refl

comment_one : (bs : List ℕ) → length bs ≡ 1 → comment_at bs ≡ 1
unfolding comment_at
comment_one [] e = absurd (omega arith)
comment_one (b ∷ []) e = refl
comment_one (b ∷ c ∷ bs) e = absurd (omega arith)

pub comment_ends : (bs : List ℕ) (i : ℕ) → suc i ≡ length bs → comment_at (drop i bs) ≡ 1
comment_ends bs i e = comment_one (drop i bs) (omega (arith, length-drop i bs))

pub comment_none : (bs : List ℕ) → length bs ≡ 0 → comment_at bs ≡ 0
unfolding comment_at
comment_none [] e = refl
comment_none (b ∷ bs) e = absurd (omega arith)

comment_byte : (b c : ℕ) → (is_blank b && eqb c 35) ≡ true → c < 128
comment_byte b c h = grind (arith, nat_tests)

-- the search for a comment at i, which is behind k, ends or goes on
pub comment_found : (bs : List ℕ) (k i total : ℕ) → suc k ≡ i → i < length bs → (is_blank (get_or bs k 0) && eqb (get_or bs i 0) 35) ≡ true → (0 < length bs → comment_at (drop k bs) + k ≡ total) → i ≡ total
comment_found bs k i total next lt e so_far =
    let here : (is_blank (get_or bs k 0) && eqb (get_or bs (suc k) 0) 35) ≡ true = rw next e in
    let one : comment_at (drop k bs) ≡ 1 = rw (comment_step bs k (omega arith), here) refl in
    omega (arith, one, so_far (omega arith))

pub comment_goes_on : (bs : List ℕ) (k i total : ℕ) → suc k ≡ i → i < length bs → (is_blank (get_or bs k 0) && eqb (get_or bs i 0) 35) ≡ false → (0 < length bs → comment_at (drop k bs) + k ≡ total) → (0 < length bs → comment_at (drop (i + 1 - 1) bs) + (i + 1 - 1) ≡ total)
comment_goes_on bs k i total next lt e so_far = λ some.
    let here : (is_blank (get_or bs k 0) && eqb (get_or bs (suc k) 0) 35) ≡ false = rw next e in
    let one : comment_at (drop k bs) ≡ comment_at (drop (suc k) bs) + 1 = rw (comment_step bs k (omega arith), here) refl in
    let place : i + 1 - 1 ≡ suc k = omega arith in
    rw place (omega (arith, one, so_far some))

pub comment_nowhere : (bs : List ℕ) (k i total : ℕ) → suc k ≡ i → length bs ≤ i → (0 < length bs → i ≤ length bs) → (0 < length bs → comment_at (drop k bs) + k ≡ total) → comment_at bs ≡ total → length bs ≡ total
comment_nowhere bs k i total next le fits so_far whole =
    elim (cases_lt 0 (length bs)) [
      | inl lt ↦ omega (arith, so_far lt, fits lt, comment_ends bs k (omega (arith, fits lt)))
      | inr ge ↦ omega (arith, comment_none bs (omega arith))
    ]

-- a comment begins with `#`
comment_is_more : (b c : ℕ) (bs : List ℕ) (t : Bool) (n : ℕ) → (is_blank b && eqb c 35) ≡ t → (n ≤ length (c ∷ bs)) × (n < length (c ∷ bs) → get_or (c ∷ bs) n 0 < 128) → (cond t 1 (n + 1) ≤ length (b ∷ c ∷ bs)) × (cond t 1 (n + 1) < length (b ∷ c ∷ bs) → get_or (b ∷ c ∷ bs) (cond t 1 (n + 1)) 0 < 128)
comment_is_more b c bs true n e h = (omega arith, λ lt. comment_byte b c e)
comment_is_more b c bs false n e h = (omega arith, λ lt. rw add-one (h.1 (omega arith)))

comment_is : (bs : List ℕ) → (comment_at bs ≤ length bs) × (comment_at bs < length bs → get_or bs (comment_at bs) 0 < 128)
unfolding comment_at
comment_is [] = (omega arith, λ lt. absurd (omega arith))
comment_is (b ∷ []) = (omega arith, λ lt. absurd (omega arith))
comment_is (b ∷ c ∷ bs) = comment_is_more b c bs (is_blank b && eqb c 35) (comment_at (c ∷ bs)) refl (comment_is (c ∷ bs))

pub cut_comment : (bs : List ℕ) → IsCharBoundary bs (comment_at bs)
cut_comment bs = cut_before bs (comment_at bs) (comment_is bs).0 (comment_is bs).1
