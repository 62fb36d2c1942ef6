-- Lists, taken apart at a place.
use Rattle.std.proofs.Common.{◌≡◌, ℕ, zero, suc, ◌+◌, ◌<◌, ◌≤◌, ◌++◌, [], ◌∷◌, List, length, get_or, take, drop, refl, sym, ap, ◌∙◌, arith, Result, Ok, Err, Option, Some, None}
use Rattle.std.specs.Prelude.{◌-◌, IfOk, IfNone, slice_range}
use Rattle.std.proofs.lemmas.List.{take_more, take_all}

-- a list, taken apart at one of its elements
pub split_at : {X : Type 0} (xs : List X) (i : ℕ) (x : X) → i < length xs → x ≡ get_or xs i x → xs ≡ take i xs ++ x ∷ drop (suc i) xs
split_at [] i x h e = absurd (omega arith)
split_at (y ∷ xs) zero x h e = ap (λ z. z ∷ xs) (sym e)
split_at (y ∷ xs) (suc i) x h e = ap (λ more. y ∷ more) (split_at xs i x (omega arith) e)

-- the front with one element more
pub take_next : {X : Type 0} (xs : List X) (i : ℕ) (x : X) → i < length xs → x ≡ get_or xs i x → take (i + 1) xs ≡ take i xs ++ x ∷ []
take_next xs i x h e = take_more xs i x h ∙ ap (λ y. take i xs ++ y ∷ []) (sym e)

-- a list of one element
pub one_item : {X : Type 0} (xs : List X) (d : X) → length xs ≡ 1 → xs ≡ get_or xs 0 d ∷ []
one_item [] d h = absurd (omega arith)
one_item (x ∷ []) d h = refl
one_item (x ∷ y ∷ xs) d h = absurd (omega arith)

-- a list of two elements
pub two_items : {X : Type 0} (xs : List X) (d : X) → length xs ≡ 2 → xs ≡ get_or xs 0 d ∷ get_or xs 1 d ∷ []
two_items [] d h = absurd (omega arith)
two_items (x ∷ []) d h = absurd (omega arith)
two_items (x ∷ y ∷ []) d h = refl
two_items (x ∷ y ∷ z ∷ xs) d h = absurd (omega arith)

-- a list of three elements
pub three_items : {X : Type 0} (xs : List X) (d : X) → length xs ≡ 3 → xs ≡ get_or xs 0 d ∷ get_or xs 1 d ∷ get_or xs 2 d ∷ []
three_items [] d h = absurd (omega arith)
three_items (x ∷ xs) d h = ap (λ more. x ∷ more) (two_items xs d (omega arith))

-- a list of two elements or more
pub two_and_more : {X : Type 0} (xs : List X) (d : X) → 2 ≤ length xs → xs ≡ get_or xs 0 d ∷ get_or xs 1 d ∷ slice_range xs 2 (length xs)
two_and_more [] d h = absurd (omega arith)
two_and_more (x ∷ []) d h = absurd (omega arith)
two_and_more (x ∷ y ∷ xs) d h = ap (λ more. x ∷ y ∷ more) (sym (take_all (length (x ∷ y ∷ xs) - 2) xs (omega arith)))

-- ---- what holds of an answer

pub if_ok_weaker : {T E : Type 0} {P Q : T → Type 0} (r : Result T E) → ((t : T) → P t → Q t) → IfOk r P → IfOk r Q
if_ok_weaker (Ok t) f p = f t p
if_ok_weaker (Err e) f p = tt

pub if_none_weaker : {T P Q : Type 0} (o : Option T) → (P → Q) → IfNone o P → IfNone o Q
if_none_weaker None f p = f p
if_none_weaker (Some t) f p = tt
