-- What the relations of two patterns say of the tags.
use Rattle.std.proofs.Common.{◌≡◌, ℕ, ◌⊎◌, List, [], ◌∷◌, ◌++◌, map, inl, inr, refl, sym, subst, ap, ◌∙◌, append_assoc}
use Rattle.tag_pattern.specs.Items.{Item}
use Rattle.tag_pattern.specs.Patterns.{InPattern, Fits, Meets, empty_fits, literal_fits_itself, literal_fits_part, part_fits_part, none_fits_parts, item_fits_parts, empty_meets, literal_meets_itself, literal_meets_part, part_meets_literal, part_meets_part, parts_meet_none, parts_meet_item, none_meets_parts, item_meets_parts}
use Rattle.tag_pattern.specs.declared.item.PatternItem.TheVariants.{Literal, AnyPart, AnyParts}

-- ---- what fits is a subset

-- what any number of parts has, it has behind more parts
behind : (front parts : List (List ℕ)) (q : List Item) → InPattern (AnyParts ∷ q) parts → InPattern (AnyParts ∷ q) (front ++ parts)
behind front parts q (first, rest, e, h) = (front ++ first, rest, ap (λ x. front ++ x) e ∙ sym (append_assoc front first rest), h)

behind_item : (item : Item) (p q : List Item) → ((rest : List (List ℕ)) → InPattern p rest → InPattern (AnyParts ∷ q) rest) → (parts : List (List ℕ)) → InPattern (item ∷ p) parts → InPattern (AnyParts ∷ q) parts
behind_item (Literal text) p q sub parts (rest, e, h) = subst (InPattern (AnyParts ∷ q)) (sym e) (behind (text ∷ []) rest q (sub rest h))
behind_item AnyPart p q sub parts (part, rest, e, h) = subst (InPattern (AnyParts ∷ q)) (sym e) (behind (part ∷ []) rest q (sub rest h))
behind_item AnyParts p q sub parts (front, rest, e, h) = subst (InPattern (AnyParts ∷ q)) (sym e) (behind front rest q (sub rest h))

pub subset : {p q : List Item} → Fits p q → (parts : List (List ℕ)) → InPattern p parts → InPattern q parts
subset empty_fits parts h = h
subset (literal_fits_itself f) parts (rest, e, h) = (rest, e, subset f rest h)
subset (literal_fits_part {text = text} f) parts (rest, e, h) = (text, rest, e, subset f rest h)
subset (part_fits_part f) parts (part, rest, e, h) = (part, rest, e, subset f rest h)
subset (none_fits_parts f) parts h = ([], parts, refl, subset f parts h)
subset (item_fits_parts {item = item} {p = p} {q = q} f) parts h = behind_item item p q (subset f) parts h

-- ---- a tag is of a pattern where its parts, as literals, fit it

own_tag : (parts : List (List ℕ)) → InPattern (map Literal parts) parts
own_tag [] = refl
own_tag (part ∷ parts) = (parts, refl, own_tag parts)

literals_in_parts : (front rest : List (List ℕ)) (q : List Item) → Fits (map Literal rest) q → Fits (map Literal (front ++ rest)) (AnyParts ∷ q)
literals_in_parts [] rest q f = none_fits_parts f
literals_in_parts (part ∷ front) rest q f = item_fits_parts (literals_in_parts front rest q f)

literals_fit : (q : List Item) (parts : List (List ℕ)) → InPattern q parts → Fits (map Literal parts) q
literals_fit [] parts e = subst (λ (x : List (List ℕ)). Fits (map Literal x) []) (sym e) empty_fits
literals_fit (Literal text ∷ q) parts (rest, e, h) = subst (λ (x : List (List ℕ)). Fits (map Literal x) (Literal text ∷ q)) (sym e) (literal_fits_itself (literals_fit q rest h))
literals_fit (AnyPart ∷ q) parts (part, rest, e, h) = subst (λ (x : List (List ℕ)). Fits (map Literal x) (AnyPart ∷ q)) (sym e) (literal_fits_part (literals_fit q rest h))
literals_fit (AnyParts ∷ q) parts (front, rest, e, h) = subst (λ (x : List (List ℕ)). Fits (map Literal x) (AnyParts ∷ q)) (sym e) (literals_in_parts front rest q (literals_fit q rest h))

pub literals_fit_iff : (q : List Item) (parts : List (List ℕ)) → (Fits (map Literal parts) q → InPattern q parts) × (InPattern q parts → Fits (map Literal parts) q)
literals_fit_iff q parts = (λ f. subset f parts (own_tag parts), literals_fit q parts)

-- ---- where a tag is common, the patterns meet

Meet : List Item → List Item → Type 0
Meet p q = (parts : List (List ℕ)) → InPattern p parts → InPattern q parts → Meets p q

nothing_meets : (q : List Item) → Meet [] q
unfolding Meet
nothing_meets [] parts e h = empty_meets
nothing_meets (Literal text ∷ q) parts e (rest, f, h) = cc
nothing_meets (AnyPart ∷ q) parts e (part, rest, f, h) = cc
nothing_meets (AnyParts ∷ q) parts e ([], rest, f, h) = none_meets_parts (nothing_meets q rest (sym f ∙ e) h)
nothing_meets (AnyParts ∷ q) parts e (part ∷ front, rest, f, h) = cc

literal_meets : (text : List ℕ) (p : List Item) → ((q : List Item) → Meet p q) → (q : List Item) → Meet (Literal text ∷ p) q
unfolding Meet
literal_meets text p less [] parts (rest, e, h) none = cc
literal_meets text p less (Literal same ∷ q) parts (rest, e, h) (others, f, k) =
    let text_is : text ≡ same = cc in
    let rest_is : others ≡ rest = cc in
    subst (λ (x : List ℕ). Meets (Literal text ∷ p) (Literal x ∷ q)) text_is (literal_meets_itself (less q rest h (subst (InPattern q) rest_is k)))
literal_meets text p less (AnyPart ∷ q) parts (rest, e, h) (part, others, f, k) =
    let rest_is : others ≡ rest = cc in literal_meets_part (less q rest h (subst (InPattern q) rest_is k))
literal_meets text p less (AnyParts ∷ q) parts h ([], others, f, k) =
    none_meets_parts (literal_meets text p less q others (subst (InPattern (Literal text ∷ p)) f h) k)
literal_meets text p less (AnyParts ∷ q) parts (rest, e, h) (part ∷ front, others, f, k) =
    let rest_is : rest ≡ front ++ others = cc in item_meets_parts (less (AnyParts ∷ q) rest h (front, others, rest_is, k))

part_meets : (p : List Item) → ((q : List Item) → Meet p q) → (q : List Item) → Meet (AnyPart ∷ p) q
unfolding Meet
part_meets p less [] parts (part, rest, e, h) none = cc
part_meets p less (Literal text ∷ q) parts (part, rest, e, h) (others, f, k) =
    let rest_is : others ≡ rest = cc in part_meets_literal (less q rest h (subst (InPattern q) rest_is k))
part_meets p less (AnyPart ∷ q) parts (part, rest, e, h) (same, others, f, k) =
    let rest_is : others ≡ rest = cc in part_meets_part (less q rest h (subst (InPattern q) rest_is k))
part_meets p less (AnyParts ∷ q) parts h ([], others, f, k) =
    none_meets_parts (part_meets p less q others (subst (InPattern (AnyPart ∷ p)) f h) k)
part_meets p less (AnyParts ∷ q) parts (part, rest, e, h) (first ∷ front, others, f, k) =
    let rest_is : rest ≡ front ++ others = cc in item_meets_parts (less (AnyParts ∷ q) rest h (front, others, rest_is, k))

-- of two ends of one list, one ends the other
one_ends : (a x b y : List (List ℕ)) → a ++ x ≡ b ++ y → ((mid : List (List ℕ)) × (x ≡ mid ++ y)) ⊎ ((mid : List (List ℕ)) × (y ≡ mid ++ x))
one_ends [] x b y e = inl (b, e)
one_ends (c ∷ a) x [] y e = inr (c ∷ a, sym e)
one_ends (c ∷ a) x (d ∷ b) y e = let tails : a ++ x ≡ b ++ y = cc in one_ends a x b y tails

parts_meet : (p : List Item) → ((q : List Item) → Meet p q) → (q : List Item) → Meet (AnyParts ∷ p) q
unfolding Meet
parts_meet p less [] parts ([], rest, e, h) none = parts_meet_none (less [] rest h (sym e ∙ none))
parts_meet p less [] parts (part ∷ front, rest, e, h) none = cc
parts_meet p less (Literal text ∷ q) parts ([], rest, e, h) k = parts_meet_none (less (Literal text ∷ q) rest h (subst (InPattern (Literal text ∷ q)) e k))
parts_meet p less (Literal text ∷ q) parts (part ∷ front, rest, e, h) (others, f, k) =
    let others_is : others ≡ front ++ rest = cc in parts_meet_item (parts_meet p less q others (front, rest, others_is, h) k)
parts_meet p less (AnyPart ∷ q) parts ([], rest, e, h) k = parts_meet_none (less (AnyPart ∷ q) rest h (subst (InPattern (AnyPart ∷ q)) e k))
parts_meet p less (AnyPart ∷ q) parts (part ∷ front, rest, e, h) (same, others, f, k) =
    let others_is : others ≡ front ++ rest = cc in parts_meet_item (parts_meet p less q others (front, rest, others_is, h) k)
parts_meet p less (AnyParts ∷ q) parts (front, rest, e, h) (first, others, f, k) =
    elim (one_ends front rest first others (sym e ∙ f)) [
      | inl (mid, is) ↦ parts_meet_none (less (AnyParts ∷ q) rest h (mid, others, is, k))
      | inr (mid, is) ↦ none_meets_parts (parts_meet p less q others (mid, rest, is, h) k)
    ]

meet : (p q : List Item) → Meet p q
meet [] = nothing_meets
meet (Literal text ∷ p) = literal_meets text p (meet p)
meet (AnyPart ∷ p) = part_meets p (meet p)
meet (AnyParts ∷ p) = parts_meet p (meet p)

pub common_meets : (p q : List Item) (parts : List (List ℕ)) → InPattern p parts → InPattern q parts → Meets p q
unfolding Meet
common_meets p q = meet p q
