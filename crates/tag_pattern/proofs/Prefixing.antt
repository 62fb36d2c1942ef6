-- Tags and patterns with a prefix in front.
use Rattle.std.proofs.Common.{◌≡◌, ℕ, ◌==◌, List, [], ◌∷◌, ◌++◌, map, inl, inr, refl, ap, ◌∙◌, subst}
use Rattle.std.specs.List.{onto_first}
use Rattle.std.proofs.lemmas.Bool.{cases_eq, eq-eqb, ne_eqb}
use Rattle.std.proofs.lemmas.List.Splits.{slice_split-cons_yes, slice_split-cons_no}
use Rattle.tag_pattern.specs.Items.{Item}
use Rattle.tag_pattern.specs.Parts.{dot, parts_of}
use Rattle.tag_pattern.specs.Patterns.{InPattern}
use Rattle.tag_pattern.specs.Prefixes.{prefixed_items, prefixed_tag, IsSameBehind}
use Rattle.tag_pattern.specs.declared.item.PatternItem.TheVariants.{Literal}
use Rattle.tag_pattern.proofs.Splits.{pieces_some}

onto_front : (b : ℕ) (front back : List (List ℕ)) → (front ≡ [] → ⊥) → onto_first b (front ++ back) ≡ onto_first b front ++ back
onto_front b [] back some = absurd (some refl)
onto_front b (part ∷ front) back some = refl

-- the parts of a prefixed tag are those of the prefix and those of the tag
pub parts-prefixed : (prefix tag : List ℕ) → parts_of (prefixed_tag prefix tag) ≡ parts_of prefix ++ parts_of tag
parts-prefixed [] tag = slice_split-cons_yes (λ b. b == dot) dot tag (eq-eqb dot dot refl)
parts-prefixed (b ∷ prefix) tag = elim (cases_eq b dot) [
  | inl is ↦ rw (slice_split-cons_yes (λ x. x == dot) b (prefixed_tag prefix tag) (eq-eqb b dot is), slice_split-cons_yes (λ x. x == dot) b prefix (eq-eqb b dot is)) (ap (λ (ps : List (List ℕ)). [] ∷ ps) (parts-prefixed prefix tag))
  | inr other ↦ rw (slice_split-cons_no (λ x. x == dot) b (prefixed_tag prefix tag) (ne_eqb b dot other), slice_split-cons_no (λ x. x == dot) b prefix (ne_eqb b dot other))
      (ap (onto_first b) (parts-prefixed prefix tag) ∙ onto_front b (parts_of prefix) (parts_of tag) (pieces_some dot prefix))
]

behind_literals : (front rest : List (List ℕ)) (p : List Item) → InPattern p rest → InPattern (map Literal front ++ p) (front ++ rest)
behind_literals [] rest p h = h
behind_literals (part ∷ front) rest p h = (front ++ rest, refl, behind_literals front rest p h)

without_literals : (front rest : List (List ℕ)) (p : List Item) → InPattern (map Literal front ++ p) (front ++ rest) → InPattern p rest
without_literals [] rest p h = h
without_literals (part ∷ front) rest p (others, e, h) =
    let same : others ≡ front ++ rest = cc in
    without_literals front rest p (subst (InPattern (map Literal front ++ p)) same h)

-- a tag is one of the pattern's exactly where the prefixed tag is one of the prefixed pattern's
pub same_behind : (prefix : List ℕ) (p : List Item) → IsSameBehind prefix p (prefixed_items prefix p)
same_behind prefix p tag =
    let parts = parts-prefixed prefix tag in
    (λ h. rw parts (behind_literals (parts_of prefix) (parts_of tag) p h), λ h. without_literals (parts_of prefix) (parts_of tag) p (rw parts at h))
