-- The first that is sought in lists that are joined, while these are gone through.
use Rattle.std.proofs.Common.{ℕ, List, [], ◌∷◌, ◌++◌, ◌≡◌, ◌+◌, ◌<◌, Bool, true, false, cond, length, take, drop, get_or, refl, sym, ap, ◌∙◌, subst, append-nil, add-one}
use Rattle.std.specs.Prelude.{Option, Some, None}
use Rattle.std.specs.List.{find, flat_map}
use Rattle.std.specs.Option.{option_or}
use Rattle.std.proofs.lemmas.Grind.{flat_map-append}
use Rattle.std.proofs.lemmas.List.Folds.{find-append}
use Rattle.std.proofs.lemmas.List.{take-append-drop}
use Rattle.std.proofs.Math.Seq.{take-suc, take-length}

found_behind : {Y : Type 0} (one other : Option Y) (wanted : Option Y) → one ≡ None → other ≡ wanted → option_or one other ≡ wanted
found_behind one other wanted none is = ap (λ o. option_or o other) none ∙ is

joined_more : {X Y : Type 0} (f : X → List Y) (xs : List X) (i : ℕ) (x : X) → i < length xs → x ≡ get_or xs i x → flat_map f (take (i + 1) xs) ≡ flat_map f (take i xs) ++ f x
joined_more f xs i x lt at =
    ap (λ k. flat_map f (take k xs)) (add-one i) ∙ ap (flat_map f) (take-suc xs i x lt) ∙ flat_map-append f (take i xs) (get_or xs i x ∷ [])
    ∙ ap (λ y. flat_map f (take i xs) ++ flat_map f (y ∷ [])) (sym at) ∙ ap (λ l. flat_map f (take i xs) ++ l) (append-nil (f x))

-- one list more has none
pub none_more : {X Y : Type 0} (p : Y → Bool) (f : X → List Y) (xs : List X) (i : ℕ) (x : X) → find p (flat_map f (take i xs)) ≡ None → i < length xs → x ≡ get_or xs i x → None ≡ find p (f x)
    → find p (flat_map f (take (i + 1) xs)) ≡ None
none_more p f xs i x none lt at is =
    ap (find p) (joined_more f xs i x lt at) ∙ find-append p (flat_map f (take i xs)) (f x) ∙ found_behind (find p (flat_map f (take i xs))) (find p (f x)) None none (sym is)

first_of : {Y : Type 0} (one : Option Y) (y : Y) (other : Option Y) → one ≡ Some y → option_or one other ≡ Some y
first_of one y other is = ap (λ o. option_or o other) is

-- the list of this place has the first
pub found_at : {X Y : Type 0} (p : Y → Bool) (f : X → List Y) (xs : List X) (i : ℕ) (x : X) (y : Y) → find p (flat_map f (take i xs)) ≡ None → i < length xs → x ≡ get_or xs i x → Some y ≡ find p (f x)
    → Some y ≡ find p (flat_map f xs)
found_at p f xs i x y none lt at is =
    let front = flat_map f (take (i + 1) xs) in
    let behind = flat_map f (drop (i + 1) xs) in
    let there : find p front ≡ Some y = ap (find p) (joined_more f xs i x lt at) ∙ find-append p (flat_map f (take i xs)) (f x) ∙ found_behind (find p (flat_map f (take i xs))) (find p (f x)) (Some y) none (sym is) in
    sym (ap (λ l. find p (flat_map f l)) (sym (take-append-drop (i + 1) xs)) ∙ ap (find p) (flat_map-append f (take (i + 1) xs) (drop (i + 1) xs)) ∙ find-append p front behind ∙ first_of (find p front) y (find p behind) there)

-- none of the elements is it
pub none_at_all : {X : Type 0} (p : X → Bool) (xs : List X) (n : ℕ) → find p (take n xs) ≡ None → n ≡ length xs → None ≡ find p xs
none_at_all p xs n none whole = sym (subst (λ l. find p l ≡ None) (ap (λ k. take k xs) whole ∙ take-length xs) none)

-- of lists of one element each the joined list is the list of these
pub ones : {X : Type 0} (xs : List X) → flat_map (λ x. x ∷ []) xs ≡ xs
ones [] = refl
ones (x ∷ xs) = ap (λ l. x ∷ l) (ones xs)

-- the element of this place is the first
pub found_one : {X : Type 0} (p : X → Bool) (xs : List X) (i : ℕ) (x : X) → find p (take i xs) ≡ None → i < length xs → x ≡ get_or xs i x → p x ≡ true → Some x ≡ find p xs
found_one p xs i x none lt at is =
    found_at p (λ y. y ∷ []) xs i x x (ap (find p) (ones (take i xs)) ∙ none) lt at (sym (ap (λ b. cond b (Some x) None) is)) ∙ ap (find p) (ones xs)

-- it is none, either
pub none_one : {X : Type 0} (p : X → Bool) (xs : List X) (i : ℕ) (x : X) → find p (take i xs) ≡ None → i < length xs → x ≡ get_or xs i x → p x ≡ false → find p (take (i + 1) xs) ≡ None
none_one p xs i x none lt at is =
    ap (find p) (sym (ones (take (i + 1) xs))) ∙ none_more p (λ y. y ∷ []) xs i x (ap (find p) (ones (take i xs)) ∙ none) lt at (sym (ap (λ b. cond b (Some x) None) is))
