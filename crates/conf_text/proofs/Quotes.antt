-- What a text in quotes spells, from its front.
use Rattle.std.proofs.Common.{◌≡◌, ◌≢◌, ℕ, suc, add-zero, ◌+◌, ◌<◌, Bool, true, false, cond, eqb, not, List, [], ◌∷◌, ◌++◌, length, get_or, drop, take, inl, inr, refl, sym, ap, ◌∙◌, append_assoc, Option, Some, None, arith}
use Rattle.std.specs.Option.{option_and_then}
use Rattle.std.specs.List.{position_or_len}
use Rattle.std.proofs.lemmas.Bool.{cases_lt}
use Rattle.std.proofs.lemmas.Bool.Decides.{nat_tests}
use Rattle.std.proofs.lemmas.List.{get_or-drop, length-drop}
use Rattle.std.proofs.lemmas.List.Sums.{passes_at_first, prefix_len-le-length}
use Rattle.std.specs.Str.{IsCharBoundary}
use Rattle.conf_text.proofs.Cuts.{cut_before}
use Rattle.conf_text.specs.Quoted.{escape, embeds, with_byte, quoted, is_special}
use Rattle.conf_text.specs.Special.{with_front}

pub is_other : (a b : ℕ) → a ≢ b → eqb a b ≡ false
is_other a b ne = grind (arith, nat_tests)

pub special_rest : (mark b : ℕ) → is_special mark b ≡ true → b ≢ mark → b ≢ 92 → b ≡ 35
special_rest mark b e m h = grind (arith, nat_tests)

no_escape : {c : ℕ} (t : Bool) → cond t None None ≡ Some c → ⊥
no_escape true e = cc
no_escape false e = cc

-- what stands behind `\` in an escape is ASCII
pub escape_is_ascii : (mark b c : ℕ) → escape mark b ≡ Some c → b < 128
escape_is_ascii mark b c e =
    elim (cases_lt b 128) [
      | inl lt ↦ lt
      | inr ge ↦
          let a : eqb b 92 ≡ false = is_other _ _ (λ x. omega arith) in
          let d : eqb b 34 ≡ false = is_other _ _ (λ x. omega arith) in
          let n : eqb b 110 ≡ false = is_other _ _ (λ x. omega arith) in
          let r : eqb b 114 ≡ false = is_other _ _ (λ x. omega arith) in
          let t : eqb b 116 ≡ false = is_other _ _ (λ x. omega arith) in
          let q : eqb b 39 ≡ false = is_other _ _ (λ x. omega arith) in
          absurd (no_escape (eqb mark 34) (rw (a, d, n, r, t, q) at e))
    ]

pub quoted_nil : (mark : ℕ) (bs : List ℕ) → length bs ≡ 0 → quoted mark bs ≡ None
unfolding quoted
quoted_nil mark [] e = refl
quoted_nil mark (b ∷ bs) e = absurd (omega arith)

pub quoted_close : (mark : ℕ) (bs : List ℕ) → 0 < length bs → eqb (get_or bs 0 0) mark ≡ true → quoted mark bs ≡ Some ([], drop 1 bs)
unfolding quoted
quoted_close mark [] lt e = absurd (omega arith)
quoted_close mark (b ∷ []) lt e = rw e refl
quoted_close mark (b ∷ c ∷ bs) lt e = rw e refl

pub quoted_one : (mark : ℕ) (bs : List ℕ) → length bs ≡ 1 → eqb (get_or bs 0 0) mark ≡ false → quoted mark bs ≡ None
unfolding quoted
quoted_one mark [] len e = absurd (omega arith)
quoted_one mark (b ∷ []) len e = rw e refl
quoted_one mark (b ∷ c ∷ bs) len e = absurd (omega arith)

pub quoted_escape : (mark : ℕ) (bs : List ℕ) → 1 < length bs → eqb (get_or bs 0 0) mark ≡ false → eqb (get_or bs 0 0) 92 ≡ true → quoted mark bs ≡ option_and_then (λ e. with_byte e (quoted mark (drop 2 bs))) (escape mark (get_or bs 1 0))
unfolding quoted
quoted_escape mark [] lt e h = absurd (omega arith)
quoted_escape mark (b ∷ []) lt e h = absurd (omega arith)
quoted_escape mark (b ∷ c ∷ bs) lt e h = rw (e, h) refl

pub quoted_embeds : (mark : ℕ) (bs : List ℕ) → 1 < length bs → eqb (get_or bs 0 0) mark ≡ false → eqb (get_or bs 0 0) 92 ≡ false → embeds mark (get_or bs 0 0) (get_or bs 1 0) ≡ true → quoted mark bs ≡ None
unfolding quoted
quoted_embeds mark [] lt e h k = absurd (omega arith)
quoted_embeds mark (b ∷ []) lt e h k = absurd (omega arith)
quoted_embeds mark (b ∷ c ∷ bs) lt e h k = rw (e, h, k) refl

pub quoted_stands : (mark : ℕ) (bs : List ℕ) → 1 < length bs → eqb (get_or bs 0 0) mark ≡ false → eqb (get_or bs 0 0) 92 ≡ false → embeds mark (get_or bs 0 0) (get_or bs 1 0) ≡ false → quoted mark bs ≡ with_front (get_or bs 0 0 ∷ []) (quoted mark (drop 1 bs))
unfolding quoted
quoted_stands mark [] lt e h k = absurd (omega arith)
quoted_stands mark (b ∷ []) lt e h k = absurd (omega arith)
quoted_stands mark (b ∷ c ∷ bs) lt e h k = rw (e, h, k) refl

-- fronts add up
pub with_front-append : (xs ys : List ℕ) (read : Option (List ℕ × List ℕ)) → with_front (xs ++ ys) read ≡ with_front xs (with_front ys read)
with_front-append xs ys None = refl
with_front-append xs ys (Some found) = ap (λ (zs : List ℕ). Some (zs, found.1)) (append_assoc xs ys found.0)

pub with_front-nil : (read : Option (List ℕ × List ℕ)) → with_front [] read ≡ read
with_front-nil None = refl
with_front-nil (Some found) = refl

special_is_ascii : (mark b : ℕ) → mark < 128 → is_special mark b ≡ true → b < 128
special_is_ascii mark b lt e = grind (arith, nat_tests)

-- a byte that is not special stands for itself
plain_one : (mark b : ℕ) (bs : List ℕ) → is_special mark b ≡ false → quoted mark (b ∷ bs) ≡ with_front (b ∷ []) (quoted mark bs)
unfolding quoted
plain_one mark b [] e =
    let m : eqb b mark ≡ false = grind (arith, nat_tests) in
    rw m refl
plain_one mark b (c ∷ bs) e =
    let m : eqb b mark ≡ false = grind (arith, nat_tests) in
    let h : eqb b 92 ≡ false = grind (arith, nat_tests) in
    let k : embeds mark b c ≡ false = grind (arith, nat_tests) in
    rw (m, h, k) refl

plain_step : (mark b : ℕ) (bs : List ℕ) (t : Bool) → is_special mark b ≡ t
    → quoted mark bs ≡ with_front (take (position_or_len (λ x. is_special mark x) bs) bs) (quoted mark (drop (position_or_len (λ x. is_special mark x) bs) bs))
    → quoted mark (b ∷ bs) ≡ with_front (take (cond (not t) (1 + position_or_len (λ x. is_special mark x) bs) 0) (b ∷ bs)) (quoted mark (drop (cond (not t) (1 + position_or_len (λ x. is_special mark x) bs) 0) (b ∷ bs)))
plain_step mark b bs true e h = sym (with_front-nil (quoted mark (b ∷ bs)))
plain_step mark b bs false e h =
    let n = position_or_len (λ x. is_special mark x) bs in
    let more : 1 + n ≡ suc n = omega arith in
    rw more (plain_one mark b bs e ∙ ap (λ r. with_front (b ∷ []) r) h ∙ sym (with_front-append (b ∷ []) (take n bs) (quoted mark (drop n bs))))

-- the bytes before the first special one stand for themselves
pub plain_run : (mark : ℕ) (bs : List ℕ) → quoted mark bs ≡ with_front (take (position_or_len (λ b. is_special mark b) bs) bs) (quoted mark (drop (position_or_len (λ b. is_special mark b) bs) bs))
plain_run mark [] = sym (with_front-nil (quoted mark []))
plain_run mark (b ∷ bs) = plain_step mark b bs (is_special mark b) refl (plain_run mark bs)

-- the first byte that is not plain is special
pub plain_ends : (mark : ℕ) (bs : List ℕ) → 0 < length (drop (position_or_len (λ b. is_special mark b) bs) bs) → is_special mark (get_or (drop (position_or_len (λ b. is_special mark b) bs) bs) 0 0) ≡ true
plain_ends mark bs lt =
    let n = position_or_len (λ b. is_special mark b) bs in
    rw (get_or-drop, add-zero) (passes_at_first (λ b. is_special mark b) bs 0 (omega (arith, length-drop n bs)))

-- a text may be cut behind its plain front
pub cut_plain : (mark : ℕ) (bs : List ℕ) → mark < 128 → IsCharBoundary bs (position_or_len (λ b. is_special mark b) bs)
cut_plain mark bs ascii =
    cut_before bs (position_or_len (λ b. is_special mark b) bs) (prefix_len-le-length (λ b. not (is_special mark b)) bs) (λ lt. special_is_ascii mark _ ascii (passes_at_first (λ b. is_special mark b) bs 0 lt))
