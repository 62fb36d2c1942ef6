-- A row that is filled from its end.
use Rattle.std.proofs.Common.{◌≡◌, ◌≢◌, ℕ, ◌+◌, ◌-◌, ◌<◌, ◌≤◌, Bool, false, List, [], ◌∷◌, length, drop, set, get_or, inl, inr, refl, sym, ◌∙◌, subst, arith, get_or-set_same, get_or-set_other}
use Rattle.std.proofs.lemmas.List.{drop_more, drop_all, get_or-map, length-map}
use Rattle.std.proofs.lemmas.Bool.{cases_order}
use Rattle.std.specs.declared.vec.Vec.{Vec}
use Rattle.tag_pattern.specs.Items.{Item, item_of, items_of}
use Rattle.tag_pattern.specs.declared.item.PatternItem.{PatternItem}
use Rattle.tag_pattern.specs.Rows.{Answers, IsCell, IsEndOfColumn, IsRow}
use Rattle.tag_pattern.specs.declared.row.Relation.{Relation}

-- the places from j on answer
abbrev pub IsRowFrom : Relation → List Item → List Item → List Bool → ℕ → Type 0
IsRowFrom r p q row j = (k : ℕ) → j ≤ k → k ≤ length q → Answers r p (drop k q) (get_or row k false)

-- one more place
pub row_more : (r : Relation) (p q : List Item) (row : List Bool) (i : ℕ) (answer : Bool) → 0 < i → i ≤ length row → Answers r p (drop (i - 1) q) answer → IsRowFrom r p q row i → IsRowFrom r p q (set row (i - 1) answer) (i - 1)
row_more r p q row i answer some room here rest k above below =
    let inside : i - 1 < length row = omega arith in
    elim (cases_order k (i - 1)) [
      | inl e ↦ subst (λ (n : ℕ). Answers r p (drop n q) (get_or (set row (i - 1) answer) n false)) (sym e) (rw get_or-set_same here)
      | inr (inl lower) ↦ absurd (omega arith)
      | inr (inr higher) ↦ let other : k ≢ i - 1 = omega arith in rw get_or-set_other (rest k (omega arith) below)
    ]

-- the place of the empty pattern
pub row_end : (r : Relation) (p q : List Item) (row : List Bool) (n : ℕ) (answer : Bool) → n ≡ length q → n < length row → Answers r p [] answer → IsRowFrom r p q (set row n answer) n
row_end r p q row n answer all room here k above below =
    let last : k ≡ n = omega arith in
    let past : length q ≤ k = omega arith in
    rw (last, get_or-set_same, drop_all n q (omega arith)) here

-- what stands at a place of a pattern, and behind it
pub item_more : {A : Type 0} (others : List (PatternItem (Vec ℕ A))) (i : ℕ) (x : PatternItem (Vec ℕ A)) → 0 < i → i ≤ length others → x ≡ get_or others (i - 1) x → drop (i - 1) (items_of others) ≡ item_of x ∷ drop i (items_of others)
item_more others i x some room is =
    let inside : i - 1 < length others = omega arith in
    let whole : i - 1 < length (items_of others) = rw length-map inside in
    let back : i - 1 + 1 ≡ i = omega arith in
    drop_more (items_of others) (i - 1) (item_of x) whole ∙ rw (get_or-map item_of others (i - 1) x (item_of x) inside, ← is, back) refl

-- one more place of the row of the empty pattern
pub column_step : {A : Type 0} (r : Relation) (others : List (PatternItem (Vec ℕ A))) (row : List Bool) (i : ℕ) (x : PatternItem (Vec ℕ A)) (y : Item) (answer : Bool) → 0 < i → i ≤ length others → length others < length row → x ≡ get_or others (i - 1) x → y ≡ item_of x → IsEndOfColumn r y (get_or row (i - 1 + 1) false) answer → IsRowFrom r [] (items_of others) row i → IsRowFrom r [] (items_of others) (set row (i - 1) answer) (i - 1)
column_step r others row i x y answer some room wide is same step rest =
    let back : i - 1 + 1 ≡ i = omega arith in
    let n = length-map others item_of in
    let right = rest i (omega arith) (omega arith) in
    let here : Answers r [] (y ∷ drop i (items_of others)) answer = step (drop i (items_of others)) (rw back right) in
    row_more r [] (items_of others) row i answer some (omega arith) (rw (item_more others i x some room is, ← same) here) rest

-- one more place of the row of an item and what stands behind it
pub cell_step : {A : Type 0} (r : Relation) (item : Item) (p : List Item) (others : List (PatternItem (Vec ℕ A))) (below row : List Bool) (i : ℕ) (x : PatternItem (Vec ℕ A)) (y : Item) (answer : Bool) → 0 < i → i ≤ length others → length others < length row → x ≡ get_or others (i - 1) x → y ≡ item_of x → IsCell r item y (get_or below (i - 1) false) (get_or row (i - 1 + 1) false) (get_or below (i - 1 + 1) false) answer → IsRow r p (items_of others) below → IsRowFrom r (item ∷ p) (items_of others) row i → IsRowFrom r (item ∷ p) (items_of others) (set row (i - 1) answer) (i - 1)
cell_step r item p others below row i x y answer some room wide is same step under rest =
    let back : i - 1 + 1 ≡ i = omega arith in
    let n = length-map others item_of in
    let q = drop i (items_of others) in
    let right = rest i (omega arith) (omega arith) in
    let more : drop (i - 1) (items_of others) ≡ y ∷ q = item_more others i x some room is ∙ rw same refl in
    let b : Answers r p (y ∷ q) (get_or below (i - 1) false) = rw (← more) (under (i - 1) (omega arith)) in
    let here : Answers r (item ∷ p) (y ∷ q) answer = step p q b (rw back right) (rw back (under i (omega arith))) in
    row_more r (item ∷ p) (items_of others) row i answer some (omega arith) (rw more here) rest

-- a row's place of the empty pattern
pub at_end : {A : Type 0} (r : Relation) (p : List Item) (others : List (PatternItem (Vec ℕ A))) (row : List Bool) → IsRow r p (items_of others) row → Answers r p [] (get_or row (length others) false)
at_end r p others row under =
    let n = length-map others item_of in
    let all : length (items_of others) ≤ length others = omega arith in
    rw drop_all at (under (length others) (omega arith))
