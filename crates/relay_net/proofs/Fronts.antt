-- Texts with something in front.
use Rattle.std.proofs.Common.{◌≡◌, ◌≢◌, ℕ, zero, suc, ◌<◌, ◌≤◌, ◌↔◌, Bool, true, false, IsTrue, List, [], ◌∷◌, ◌++◌, length, take, drop, get_or, refl, sym, ap, ◌∙◌, arith}
use Rattle.tag_pattern.specs.Parts.{dot}
use Rattle.tag_pattern.specs.Prefixes.{prefixed_tag}

pub drop_front : (front rest : List ℕ) → drop (length front) (front ++ rest) ≡ rest
drop_front [] rest = refl
drop_front (b ∷ front) rest = drop_front front rest

pub take_front : (front rest : List ℕ) → take (length front) (front ++ rest) ≡ front
take_front [] rest = refl
take_front (b ∷ front) rest = ap (λ (l : List ℕ). b ∷ l) (take_front front rest)

cut_joined : (n : ℕ) (text : List ℕ) → take n text ++ drop n text ≡ text
cut_joined zero text = refl
cut_joined (suc n) [] = refl
cut_joined (suc n) (b ∷ text) = ap (λ (l : List ℕ). b ∷ l) (cut_joined n text)

-- the front is there, and this is what stands behind it
pub prefixed_is : (text front tag : List ℕ) (r : Bool) → take (length front) text ≡ front → IsTrue r ↔ (drop (length front) text ≡ dot ∷ tag) → IsTrue r ↔ (text ≡ prefixed_tag front tag)
prefixed_is text front tag r e iff = (
  λ t. sym (cut_joined (length front) text) ∙ ap (λ (l : List ℕ). l ++ drop (length front) text) e ∙ ap (λ (l : List ℕ). front ++ l) (iff.0 t),
  λ is. iff.1 (ap (drop (length front)) is ∙ drop_front front (dot ∷ tag)),
)

-- another text is in front
pub prefixed_not : (text front tag : List ℕ) → (take (length front) text ≡ front → ⊥) → IsTrue false ↔ (text ≡ prefixed_tag front tag)
prefixed_not text front tag other = (λ e. absurd (cc), λ is. absurd (other (ap (take (length front)) is ∙ take_front front (dot ∷ tag))))

length_behind : (front tag : List ℕ) → length front < length (prefixed_tag front tag)
length_behind [] tag = omega arith
length_behind (b ∷ front) tag = let less = length_behind front tag in omega arith

-- the text is too short
pub prefixed_short : (text front tag : List ℕ) → length text ≤ length front → IsTrue false ↔ (text ≡ prefixed_tag front tag)
prefixed_short text front tag short = (λ e. absurd (cc), λ is. absurd (let less = length_behind front tag in let same = ap length is in omega arith))

-- a text whose first byte is a dot
pub behind_dot : (text tag : List ℕ) (r : Bool) → 1 ≤ length text → get_or text 0 0 ≡ dot → IsTrue r ↔ (drop 1 text ≡ tag) → IsTrue r ↔ (text ≡ dot ∷ tag)
behind_dot [] tag r some first iff = absurd (omega arith)
behind_dot (b ∷ text) tag r some first iff = (λ t. (let e = iff.0 t in cc), λ is. iff.1 (let e : text ≡ tag = cc in e))
