-- Parts of lists, one behind another.
use Rattle.std.proofs.Common.{ℕ, suc, zero, ◌≡◌, ◌+◌, ◌<◌, min, List, [], ◌∷◌, ◌++◌, length, take, drop, refl, sym, ap, ◌∙◌, ⊎_elim, append-nil, drop-drop, arith}
use Rattle.std.specs.Prelude.{get_or, sum_by}
use Rattle.std.specs.List.{AllByRecursion, flat_map}
use Rattle.std.proofs.Math.Seq.{take-append-add, take-append_seam}
use Rattle.std.proofs.lemmas.Grind.{flat_map-append}
use Rattle.std.proofs.lemmas.List.{take-append-drop}
use Rattle.std.proofs.lemmas.List.Sums.{sum_by_push}
use Rattle.std.proofs.lemmas.List.{take_all, take-append-le, drop_all, take_more}
use Rattle.std.proofs.lemmas.Bool.{cases_lt}
use Rattle.chunk_journal.specs.Places.{IsWithin}
use Rattle.chunk_journal.specs.declared.places.Extent.{Extent}
use Rattle.file_pieces.specs.Pieces.{CanTake, HasPart}

-- a beginning that reaches past the first list
pub take_past : (b c : List ℕ) (k : ℕ) → take (length b + k) (b ++ c) ≡ b ++ take k c
take_past [] c k = ap (λ n. take n c) (let e : 0 + k ≡ k = omega arith in e)
take_past (x ∷ b) c k = ap (λ n. take n (x ∷ (b ++ c))) (let e : length (x ∷ b) + k ≡ suc (length b + k) = omega arith in e) ∙ ap (λ l. x ∷ l) (take_past b c k)

-- a beginning of the first list is one of both
pub take_within : (b c : List ℕ) (k : ℕ) → take (min k (length b)) (b ++ c) ≡ take k b
take_within b c k = ⊎_elim
    (λ over. ap (λ n. take n (b ++ c)) (let e : min k (length b) ≡ length b = omega (arith, over) in e) ∙ take-append-le (length b) b c (omega arith) ∙ take_all (length b) b (omega arith) ∙ sym (take_all k b (omega (arith, over))))
    (λ within. ap (λ n. take n (b ++ c)) (let e : min k (length b) ≡ k = omega (arith, within) in e) ∙ take-append-le k b c within)
    (cases_lt (length b) k)

none_taken : {X : Type 0} (n : ℕ) → take {A = X} n [] ≡ []
none_taken zero = refl
none_taken (suc n) = refl

-- a part, and the part behind it
pub parts_joined : {X : Type 0} (l : List X) (m n : ℕ) → take m l ++ take n (drop m l) ≡ take (m + n) l
parts_joined l zero n = ap (λ k. take k l) (let e : n ≡ 0 + n = omega arith in e)
parts_joined [] (suc m) n = none_taken n ∙ sym (none_taken (suc m + n))
parts_joined (x ∷ l) (suc m) n = ap (λ r. x ∷ r) (parts_joined l m n) ∙ ap (λ k. take k (x ∷ l)) (let e : suc (m + n) ≡ suc m + n = omega arith in e)

-- a read that fills all that there is
pub read_whole : (old new part : List ℕ) (n : ℕ) → n ≡ length old → new ≡ take n part ++ drop n old → new ≡ take (length old) part
read_whole old new part n all is =
    is ∙ ap (λ k. take k part ++ drop k old) all ∙ ap (λ l. take (length old) part ++ l) (drop_all (length old) old (omega arith)) ∙ append-nil (take (length old) part)

-- what was written behind the first so many
pub written_behind : (done count : ℕ) (old front part rest bytes : List ℕ) → front ≡ take done old → length front ≡ done → length part ≡ count → part ≡ bytes → take (done + count) (front ++ (part ++ rest)) ≡ take done old ++ bytes
written_behind done count old front part rest bytes is len many same =
    ap (λ n. take n (front ++ (part ++ rest))) (let e : done + count ≡ length front + length part = omega (arith, len, many) in e)
    ∙ take-append-add front (part ++ rest) (length part) ∙ ap (λ l. front ++ l) (take-append_seam part rest ∙ same) ∙ ap (λ l. l ++ bytes) is

-- the first so many, and the next
pub next_of : {X : Type 0} (xs : List X) (i : ℕ) (x : X) → i < length xs → x ≡ get_or xs i x → take (i + 1) xs ≡ take i xs ++ x ∷ []
next_of xs i x within is = take_more xs i x within ∙ ap (λ y. take i xs ++ y ∷ []) (sym is)

pub sum_next : {X : Type 0} (f : X → ℕ) (xs : List X) (i : ℕ) (x : X) → i < length xs → x ≡ get_or xs i x → sum_by f (take (i + 1) xs) ≡ sum_by f (take i xs) + f x
sum_next f xs i x within is = ap (sum_by f) (next_of xs i x within is) ∙ sum_by_push f (take i xs) x

-- a part of a part
pub part_joined : (seen : List ℕ) (at m n : ℕ) → take m (drop at seen) ++ take n (drop (at + m) seen) ≡ take (m + n) (drop at seen)
part_joined seen at m n = ap (λ l. take m (drop at seen) ++ take n l) (sym (drop-drop m at seen)) ∙ parts_joined (drop at seen) m n

pub flat_run : {X : Type 0} (f : X → List ℕ) (front run all : List X) → all ≡ front ++ run → flat_map f front ++ flat_map f run ≡ flat_map f all
flat_run f front run all is = sym (flat_map-append f front run) ∙ ap (flat_map f) (sym is)

-- what holds of each holds of the one at a place
pub all_at : {X : Type 0} (P : X → Type 0) (xs : List X) (i : ℕ) (d : X) → AllByRecursion P xs → i < length xs → P (get_or xs i d)
all_at P [] i d all within = absurd (omega (arith, within))
all_at P (x ∷ xs) zero d all within = all.0
all_at P (x ∷ xs) (suc i) d all within = all_at P xs i d all.1 (omega (arith, within))

-- the file has what lies at one of the places, if it has what lies at all
pub taken_at : (seen : List ℕ) (places : List Extent) (i : ℕ) (d : Extent) → CanTake seen places → i < length places → HasPart seen (get_or places i d).at (get_or places i d).length
taken_at seen places i d can within = let is = all_at (IsWithin (length seen)) places i d can.1 within in (is, omega (arith, is, can.0))

pub flat_next : {X : Type 0} (f : X → List ℕ) (xs : List X) (i : ℕ) (x : X) → i < length xs → x ≡ get_or xs i x → flat_map f (take i xs) ++ f x ≡ flat_map f (take (i + 1) xs)
flat_next f xs i x within is =
    ap (λ l. flat_map f (take i xs) ++ l) (sym (append-nil (f x))) ∙ sym (flat_map-append f (take i xs) (x ∷ [])) ∙ ap (flat_map f) (sym (next_of xs i x within is))

pub flat_parted : {X : Type 0} (f : X → List ℕ) (xs : List X) (i : ℕ) → flat_map f (take i xs) ++ flat_map f (drop i xs) ≡ flat_map f xs
flat_parted f xs i = sym (flat_map-append f (take i xs) (drop i xs)) ∙ ap (flat_map f) (take-append-drop i xs)
