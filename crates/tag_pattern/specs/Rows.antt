-- How two plain patterns are compared: row by row, from their ends.
use Rattle.std.specs.Prelude.{ℕ, ◌≤◌, ◌↔◌, Bool, false, IsTrue, List, [], ◌∷◌, ◌++◌, length, drop, map, slice_index_or}
use Rattle.std.specs.Borrow.{Bor}
use Rattle.tag_pattern.specs.Items.{Item}
use Rattle.tag_pattern.specs.Patterns.{Fits, Meets}
use Rattle.tag_pattern.specs.declared.item.PatternItem.{PatternItem}
use Rattle.tag_pattern.specs.declared.item.PatternItem.TheVariants.{Literal, AnyPart, AnyParts}
use Rattle.tag_pattern.specs.declared.row.Relation.{Relation}
use Rattle.tag_pattern.specs.declared.row.Relation.TheVariants as relation

-- the item whose literal is lent
abbrev pub lent_item : PatternItem (Bor (List ℕ)) → Item
lent_item (Literal text) = Literal text.now
lent_item AnyPart = AnyPart
lent_item AnyParts = AnyParts

-- the relation holds of two patterns
abbrev pub Holds : Relation → List Item → List Item → Type 0
Holds relation.Fits p q = Fits p q
Holds relation.Meets p q = Meets p q

-- the answer says whether the relation holds of two patterns
abbrev pub Answers : Relation → List Item → List Item → Bool → Type 0
Answers r p q answer = IsTrue answer ↔ Holds r p q

-- The patterns item ∷ p and other ∷ q are asked about. Whatever p and q are, the result is right
-- where below answers for p and other ∷ q, right for item ∷ p and q, and diagonal for p and q.
abbrev pub IsCell : Relation → Item → Item → Bool → Bool → Bool → Bool → Type 0
IsCell r item other below right diagonal result =
    (p q : List Item) → Answers r p (other ∷ q) below → Answers r (item ∷ p) q right
    → Answers r p q diagonal
    → Answers r (item ∷ p) (other ∷ q) result

-- Whatever stands behind the item, the result is right for the empty pattern where below is.
abbrev pub IsEndOfRow : Relation → Item → Bool → Bool → Type 0
IsEndOfRow r item below result = (p : List Item) → Answers r p [] below
    → Answers r (item ∷ p) [] result

-- Whatever stands behind the item, the result is right for the empty pattern before it where right
-- is.
abbrev pub IsEndOfColumn : Relation → Item → Bool → Bool → Type 0
IsEndOfColumn r other right result = (q : List Item) → Answers r [] q right
    → Answers r [] (other ∷ q) result

-- Place k of the row answers for p and what stands in q from place k on.
abbrev pub IsRow : Relation → List Item → List Item → List Bool → Type 0
IsRow r p q row = (k : ℕ) → k ≤ length q → Answers r p (drop k q) (slice_index_or row k false)

-- Whatever stands behind the item, the result is its row where below is the row of what stands
-- behind it.
abbrev pub IsNextRow : Relation → Item → List Item → List Bool → List Bool → Type 0
IsNextRow r item q below result = (p : List Item) → IsRow r p q below → IsRow r (item ∷ p) q result

-- Whatever stands behind these parts, the result is the row of the parts, as literals, and of it,
-- where below is its row.
abbrev pub IsRowOfParts : List (List ℕ) → List Item → List Bool → List Bool → Type 0
IsRowOfParts parts q below result = (p : List Item) → IsRow relation.Fits p q below
    → IsRow relation.Fits (map Literal parts ++ p) q result
