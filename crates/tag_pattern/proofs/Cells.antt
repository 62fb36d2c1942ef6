-- What an answer for two items is, from three answers for less.
use Rattle.std.proofs.Common.{◌≡◌, ℕ, ◌⊎◌, ◌↔◌, Bool, true, false, ◌&&◌, ◌||◌, IsTrue, List, [], ◌∷◌, inl, inr, refl, subst, ⊎_elim}
use Rattle.std.specs.Str.{bytes_eq}
use Rattle.std.proofs.lemmas.Bool.{or_cases, or_left, or_right, and_parts, and_from, false≢true}
use Rattle.std.proofs.lemmas.Slice.Eq.{bytes_eq-Decides}
use Rattle.tag_pattern.specs.Items.{Item}
use Rattle.tag_pattern.specs.Patterns.{Fits, Meets, empty_fits, literal_fits_itself, literal_fits_part, part_fits_part, none_fits_parts, item_fits_parts, empty_meets, literal_meets_itself, literal_meets_part, part_meets_literal, part_meets_part, parts_meet_none, parts_meet_item, none_meets_parts, item_meets_parts}
use Rattle.tag_pattern.specs.Rows.{Answers, IsCell, IsEndOfRow, IsEndOfColumn}
use Rattle.tag_pattern.specs.declared.item.PatternItem.TheVariants.{Literal, AnyPart, AnyParts}
use Rattle.tag_pattern.specs.declared.row.Relation.{Relation}
use Rattle.tag_pattern.specs.declared.row.Relation.TheVariants as relation

or_is : (a b : Bool) {A B P : Type 0} → (IsTrue a ↔ A) → (IsTrue b ↔ B) → (A → P) → (B → P) → (P → A ⊎ B) → IsTrue (a || b) ↔ P
or_is a b fa fb from_a from_b to = (
  λ e. ⊎_elim (λ x. from_a (fa.0 x)) (λ y. from_b (fb.0 y)) (or_cases a b e),
  λ p. ⊎_elim (λ x. or_left a b (fa.1 x)) (λ y. or_right a b (fb.1 y)) (to p),
)

never : {P : Type 0} → (P → ⊥) → IsTrue false ↔ P
never fails = (λ e. absurd (false≢true e), λ p. absurd (fails p))

passed : {a : Bool} {A P : Type 0} → (IsTrue a ↔ A) → (A → P) → (P → A) → IsTrue a ↔ P
passed fa from to = (λ e. from (fa.0 e), λ p. fa.1 (to p))

same_and : (a : Bool) (text same : List ℕ) {A : Type 0} → (P : List ℕ → Type 0) → (IsTrue a ↔ A) → (A → P text) → (P same → (text ≡ same) × A) → IsTrue (bytes_eq text same && a) ↔ P same
same_and a text same P fa from to = (
  λ e. let both = and_parts (bytes_eq text same) a e in subst P ((bytes_eq-Decides text same).0 both.0) (from (fa.0 both.1)),
  λ p. and_from (bytes_eq text same) a ((bytes_eq-Decides text same).1 (to p).0) (fa.1 (to p).1),
)

-- what a pattern that fits another begins with
fits_parts : {x : Item} {p q : List Item} → Fits (x ∷ p) (AnyParts ∷ q) → Fits p (AnyParts ∷ q) ⊎ Fits (x ∷ p) q
fits_parts (none_fits_parts f) = inr f
fits_parts (item_fits_parts f) = inl f

fits_literal : {s t : List ℕ} {p q : List Item} → Fits (Literal s ∷ p) (Literal t ∷ q) → (s ≡ t) × Fits p q
fits_literal (literal_fits_itself f) = (refl, f)

fits_by_part : {s : List ℕ} {p q : List Item} → Fits (Literal s ∷ p) (AnyPart ∷ q) → Fits p q
fits_by_part (literal_fits_part f) = f

fits_part : {p q : List Item} → Fits (AnyPart ∷ p) (AnyPart ∷ q) → Fits p q
fits_part (part_fits_part f) = f

-- ---- the cells of fits

pub fits_parts_cell : (x : Item) (below right diagonal : Bool) → IsCell relation.Fits x AnyParts below right diagonal (below || right)
fits_parts_cell x below right diagonal p q b r d = or_is below right b r item_fits_parts none_fits_parts fits_parts

pub fits_literal_cell : (s t : List ℕ) (below right diagonal : Bool) → IsCell relation.Fits (Literal s) (Literal t) below right diagonal (bytes_eq s t && diagonal)
fits_literal_cell s t below right diagonal p q b r d = same_and diagonal s t (λ u. Fits (Literal s ∷ p) (Literal u ∷ q)) d literal_fits_itself fits_literal

pub fits_by_part_cell : (s : List ℕ) (below right diagonal : Bool) → IsCell relation.Fits (Literal s) AnyPart below right diagonal diagonal
fits_by_part_cell s below right diagonal p q b r d = passed d literal_fits_part fits_by_part

pub fits_part_cell : (below right diagonal : Bool) → IsCell relation.Fits AnyPart AnyPart below right diagonal diagonal
fits_part_cell below right diagonal p q b r d = passed d part_fits_part fits_part

-- what two patterns that meet begin with
meets_literal : {s t : List ℕ} {p q : List Item} → Meets (Literal s ∷ p) (Literal t ∷ q) → (s ≡ t) × Meets p q
meets_literal (literal_meets_itself m) = (refl, m)

meets_by_part : {s : List ℕ} {p q : List Item} → Meets (Literal s ∷ p) (AnyPart ∷ q) → Meets p q
meets_by_part (literal_meets_part m) = m

meets_by_literal : {s : List ℕ} {p q : List Item} → Meets (AnyPart ∷ p) (Literal s ∷ q) → Meets p q
meets_by_literal (part_meets_literal m) = m

meets_part : {p q : List Item} → Meets (AnyPart ∷ p) (AnyPart ∷ q) → Meets p q
meets_part (part_meets_part m) = m

meets_parts_literal : {s : List ℕ} {p q : List Item} → Meets (Literal s ∷ p) (AnyParts ∷ q) → Meets p (AnyParts ∷ q) ⊎ Meets (Literal s ∷ p) q
meets_parts_literal (none_meets_parts m) = inr m
meets_parts_literal (item_meets_parts m) = inl m

meets_parts_part : {p q : List Item} → Meets (AnyPart ∷ p) (AnyParts ∷ q) → Meets p (AnyParts ∷ q) ⊎ Meets (AnyPart ∷ p) q
meets_parts_part (none_meets_parts m) = inr m
meets_parts_part (item_meets_parts m) = inl m

parts_meet : {y : Item} {p q : List Item} → Meets (AnyParts ∷ p) (y ∷ q) → Meets p (y ∷ q) ⊎ Meets (AnyParts ∷ p) q
parts_meet (parts_meet_none m) = inl m
parts_meet (parts_meet_item m) = inr m
parts_meet (none_meets_parts m) = inr m
parts_meet (item_meets_parts m) = inl m

-- ---- the cells of meets

meets_parts : (x : Item) {p q : List Item} → Meets (x ∷ p) (AnyParts ∷ q) → Meets p (AnyParts ∷ q) ⊎ Meets (x ∷ p) q
meets_parts (Literal s) m = meets_parts_literal m
meets_parts AnyPart m = meets_parts_part m
meets_parts AnyParts m = parts_meet m

pub meets_parts_cell : (x : Item) (below right diagonal : Bool) → IsCell relation.Meets x AnyParts below right diagonal (below || right)
meets_parts_cell x below right diagonal p q b r d = or_is below right b r item_meets_parts none_meets_parts (meets_parts x)

pub parts_meet_cell : (y : Item) (below right diagonal : Bool) → IsCell relation.Meets AnyParts y below right diagonal (below || right)
parts_meet_cell y below right diagonal p q b r d = or_is below right b r parts_meet_none parts_meet_item parts_meet

pub meets_literal_cell : (s t : List ℕ) (below right diagonal : Bool) → IsCell relation.Meets (Literal s) (Literal t) below right diagonal (bytes_eq s t && diagonal)
meets_literal_cell s t below right diagonal p q b r d = same_and diagonal s t (λ u. Meets (Literal s ∷ p) (Literal u ∷ q)) d literal_meets_itself meets_literal

pub meets_by_part_cell : (s : List ℕ) (below right diagonal : Bool) → IsCell relation.Meets (Literal s) AnyPart below right diagonal diagonal
meets_by_part_cell s below right diagonal p q b r d = passed d literal_meets_part meets_by_part

pub meets_by_literal_cell : (s : List ℕ) (below right diagonal : Bool) → IsCell relation.Meets AnyPart (Literal s) below right diagonal diagonal
meets_by_literal_cell s below right diagonal p q b r d = passed d part_meets_literal meets_by_literal

pub meets_part_cell : (below right diagonal : Bool) → IsCell relation.Meets AnyPart AnyPart below right diagonal diagonal
meets_part_cell below right diagonal p q b r d = passed d part_meets_part meets_part

-- what the empty pattern compares with
meets_none : {p : List Item} → Meets (AnyParts ∷ p) [] → Meets p []
meets_none (parts_meet_none m) = m

pub meets_end : (below : Bool) → IsEndOfRow relation.Meets AnyParts below below
meets_end below p b = passed b parts_meet_none meets_none

fits_nothing : {y : Item} {q : List Item} → Fits [] (y ∷ q) → y ≡ AnyParts
fits_nothing (none_fits_parts f) = refl

meets_nothing : {y : Item} {q : List Item} → Meets [] (y ∷ q) → y ≡ AnyParts
meets_nothing (none_meets_parts m) = refl

fits_parts_none : {q : List Item} → Fits [] (AnyParts ∷ q) → Fits [] q
fits_parts_none (none_fits_parts f) = f

meets_parts_none : {q : List Item} → Meets [] (AnyParts ∷ q) → Meets [] q
meets_parts_none (none_meets_parts m) = m

pub parts_end : (r : Relation) (right : Bool) → IsEndOfColumn r AnyParts right right
parts_end relation.Fits right q a = passed a none_fits_parts fits_parts_none
parts_end relation.Meets right q a = passed a none_meets_parts meets_parts_none

pub item_end : (r : Relation) (y : Item) (right : Bool) → (y ≡ AnyParts → ⊥) → IsEndOfColumn r y right false
item_end relation.Fits y right other q a = never (λ f. other (fits_nothing f))
item_end relation.Meets y right other q a = never (λ m. other (meets_nothing m))

pub empty_answer : (r : Relation) → Answers r [] [] true
empty_answer relation.Fits = (λ _. empty_fits, λ _. refl)
empty_answer relation.Meets = (λ _. empty_meets, λ _. refl)
