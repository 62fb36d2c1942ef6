-- Places that lie in a span, and the bytes at them.
use Rattle.std.proofs.Common.{◌≡◌, ℕ, suc, zero, ◌+◌, ◌<◌, ◌≤◌, List, [], ◌∷◌, ◌++◌, length, take, drop, refl, sym, ap, subst, ◌∙◌, append-nil, drop-drop, arith}
use Rattle.std.specs.Prelude.{◌-◌, get_or}
use Rattle.std.specs.List.{AllByRecursion}
use Rattle.std.proofs.lemmas.List.Sums.{sum_by_push}
use Rattle.chunk_journal.specs.Places.{IsWithin, bytes_at, bytes_from}
use Rattle.chunk_journal.specs.declared.places.Extent.{Extent}
use Rattle.file_pieces.specs.Pieces.{CanTake, HasPart, part_of, places_room}
use Rattle.file_pieces.specs.Runs.{LiesIn, LieInSpan}
use Rattle.file_pieces.proofs.Sums.{next_of, parts_joined}

all_push : {X : Type 0} (P : X → Type 0) (xs : List X) (x : X) → AllByRecursion P xs → P x → AllByRecursion P (xs ++ x ∷ [])
all_push P [] x all is = (is, tt)
all_push P (y ∷ xs) x all is = (all.0, all_push P xs x all.1 is)

all_more : {X : Type 0} (P Q : X → Type 0) → ((x : X) → P x → Q x) → (xs : List X) → AllByRecursion P xs → AllByRecursion Q xs
all_more P Q more [] all = tt
all_more P Q more (x ∷ xs) all = (more x all.0, all_more P Q more xs all.1)

all_taken : {X : Type 0} (P : X → Type 0) (n : ℕ) (xs : List X) → AllByRecursion P xs → AllByRecursion P (take n xs)
all_taken P zero xs all = tt
all_taken P (suc n) [] all = tt
all_taken P (suc n) (x ∷ xs) all = (all.0, all_taken P n xs all.1)

all_left : {X : Type 0} (P : X → Type 0) (n : ℕ) (xs : List X) → AllByRecursion P xs → AllByRecursion P (drop n xs)
all_left P zero xs all = all
all_left P (suc n) [] all = tt
all_left P (suc n) (x ∷ xs) all = all_left P n xs all.1

last_of_all : {X : Type 0} (P : X → Type 0) (xs : List X) (x : X) → AllByRecursion P (xs ++ x ∷ []) → P x
last_of_all P [] x all = all.0
last_of_all P (y ∷ xs) x all = last_of_all P xs x all.1

-- ---- the span of a run

-- a place that lies behind a span makes it longer
pub span_on : (at span longer i : ℕ) (places : List Extent) (place : Extent) → i < length places → place ≡ get_or places i place → at + span ≤ place.at → place.at + place.length ≡ at + longer
    → LieInSpan at span (take i places) → LieInSpan at longer (take (i + 1) places)
span_on at span longer i places place within is behind end so_far = subst (λ (ps : List Extent). LieInSpan at longer ps) (sym (next_of places i place within is)) (record {
  lie = all_push (LiesIn at longer) (take i places) place (all_more (LiesIn at span) (LiesIn at longer) (λ p lies. (lies.0, omega (arith, lies.1, behind, end))) (take i places) so_far.lie) (omega (arith, behind), omega (arith, end));
  room = omega (arith, sum_by_push (λ (p : Extent). p.length) (take i places) place, so_far.room, behind, end);
  reach = λ count all. omega (arith, last_of_all (IsWithin count) (take i places) place all, end);
})

-- ---- a part of a part

taken_twice : (l : List ℕ) (n count : ℕ) → count ≤ n → take count (take n l) ≡ take count l
taken_twice l n zero less = refl
taken_twice [] zero (suc count) less = absurd (omega (arith, less))
taken_twice [] (suc n) (suc count) less = refl
taken_twice (x ∷ l) zero (suc count) less = absurd (omega (arith, less))
taken_twice (x ∷ l) (suc n) (suc count) less = ap (λ r. x ∷ r) (taken_twice l n count (omega (arith, less)))

part_of_taken : (l : List ℕ) (n from count : ℕ) → from + count ≤ n → take count (drop from (take n l)) ≡ take count (drop from l)
part_of_taken l n zero count less = taken_twice l n count (omega (arith, less))
part_of_taken l zero (suc from) count less = absurd (omega (arith, less))
part_of_taken [] (suc n) (suc from) count less = refl
part_of_taken (x ∷ l) (suc n) (suc from) count less = part_of_taken l n from count (omega (arith, less))

-- the bytes at a place that lies in a part of a file
pub part_within : (seen part : List ℕ) (at span : ℕ) (place : Extent) → part ≡ part_of seen at span → LiesIn at span place → part_of part (place.at - at) place.length ≡ bytes_from seen place
part_within seen part at span place is lies =
    ap (λ l. part_of l (place.at - at) place.length) is
    ∙ part_of_taken (drop at seen) span (place.at - at) place.length (omega (arith, lies.0, lies.1))
    ∙ ap (λ l. take place.length l) (drop-drop (place.at - at) at seen)
    ∙ ap (λ n. take place.length (drop n seen)) (let e : at + (place.at - at) ≡ place.at = omega (arith, lies.0) in e)

-- ---- a run among the places

-- the places up to the end of a run
pub run_next : (places rest run : List Extent) (i : ℕ) → rest ≡ drop i places → run ≡ take (length run) rest → take (i + length run) places ≡ take i places ++ run
run_next places rest run i behind first =
    sym (parts_joined places i (length run)) ∙ ap (λ (ps : List Extent). take i places ++ ps) (ap (λ (ps : List Extent). take (length run) ps) (sym behind) ∙ sym first)

-- whoever has all places has those of a run
pub run_taken : (seen : List ℕ) (places rest run : List Extent) (i : ℕ) → rest ≡ drop i places → run ≡ take (length run) rest → CanTake seen places → CanTake seen run
run_taken seen places rest run i behind first can = (
  can.0,
  subst (λ (ps : List Extent). AllByRecursion (IsWithin (length seen)) ps) (sym first) (all_taken (IsWithin (length seen)) (length run) rest
      (subst (λ (ps : List Extent). AllByRecursion (IsWithin (length seen)) ps) (sym behind) (all_left (IsWithin (length seen)) i places can.1))),
)

-- whoever has the places of a span has the span
pub span_taken : (seen : List ℕ) (places : List Extent) (at span : ℕ) → LieInSpan at span places → CanTake seen places → HasPart seen at span
span_taken seen places at span lies can = let end = lies.reach (length seen) can.1 in (end, omega (arith, end, can.0))

-- the only one
alone : {X : Type 0} (xs : List X) (d : X) → length xs ≡ 1 → xs ≡ get_or xs 0 d ∷ []
alone [] d one = absurd (omega (arith, one))
alone (x ∷ []) d one = refl
alone (x ∷ y ∷ xs) d one = absurd (omega (arith, one))

pub room_alone : (places : List Extent) (d : Extent) → length places ≡ 1 → places_room places ≡ (get_or places 0 d).length
room_alone [] d one = absurd (omega (arith, one))
room_alone (x ∷ []) d one = omega arith
room_alone (x ∷ y ∷ xs) d one = absurd (omega (arith, one))

pub bytes_alone : (seen : List ℕ) (places : List Extent) (d : Extent) → length places ≡ 1 → bytes_at seen places ≡ bytes_from seen (get_or places 0 d)
bytes_alone seen places d one = ap (bytes_at seen) (alone places d one) ∙ append-nil (bytes_from seen (get_or places 0 d))
