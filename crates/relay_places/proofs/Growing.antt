-- What a loop has made of the first elements of a list, and of one more.
use Rattle.std.proofs.Common.{◌≡◌, ℕ, ◌+◌, ◌<◌, Bool, true, false, List, [], ◌∷◌, ◌++◌, length, filter, get_or, map, take, sym, ap, ◌∙◌}
use Rattle.std.specs.List.{flat_map}
use Rattle.std.proofs.lemmas.List.{append_assoc, append-nil, map_more, map_push, take_more}
use Rattle.std.proofs.lemmas.List.Concat.{flat_map-append}
use Rattle.std.proofs.lemmas.List.Elements.{filter-append}

-- behind what was there
pub grown : {Y : Type 0} (base made more made' done done' : List Y) → made ≡ base ++ done → made' ≡ made ++ more
    → done' ≡ done ++ more → made' ≡ base ++ done'
grown {Y} base made more made' done done' m m' d =
    m' ∙ ap (λ (z : List Y). z ++ more) m ∙ append_assoc base done more ∙ ap (λ (z : List Y). base ++ z) (sym d)

-- what f gives of the elements up to x, which stands there
pub flat_map_step : {X Y : Type 0} (f : X → List Y) (xs : List X) (i : ℕ) (x : X) → i < length xs → x ≡ get_or xs i x
    → flat_map f (take (i + 1) xs) ≡ flat_map f (take i xs) ++ f x
flat_map_step {X} {Y} f xs i x h at =
    ap (flat_map f) (take_more xs i x h)
    ∙ flat_map-append f (take i xs) (get_or xs i x ∷ [])
    ∙ ap (λ (z : List Y). flat_map f (take i xs) ++ z) (append-nil (f (get_or xs i x)) ∙ ap f (sym at))

pub map_step : {X Y : Type 0} (f : X → Y) (xs : List X) (i : ℕ) (x : X) → i < length xs → x ≡ get_or xs i x
    → map f (take (i + 1) xs) ≡ map f (take i xs) ++ f x ∷ []
map_step {X} {Y} f xs i x h at =
    map_more f xs i x h ∙ ap (λ (z : X). map f (take i xs) ++ f z ∷ []) (sym at)

-- a filter of one element more, which it keeps
pub filter_kept : {X : Type 0} (p : X → Bool) (xs : List X) (i : ℕ) (x : X) → i < length xs → x ≡ get_or xs i x → p x ≡ true
    → filter p (take (i + 1) xs) ≡ filter p (take i xs) ++ x ∷ []
filter_kept {X} p xs i x h at passes =
    let one : filter p (x ∷ []) ≡ x ∷ [] = rw passes in
    ap (filter p) (take_more xs i x h ∙ ap (λ (z : X). take i xs ++ z ∷ []) (sym at))
    ∙ filter-append p (take i xs) (x ∷ [])
    ∙ ap (λ (z : List X). filter p (take i xs) ++ z) one

-- and of one that it lets go
pub filter_left : {X : Type 0} (p : X → Bool) (xs : List X) (i : ℕ) (x : X) → i < length xs → x ≡ get_or xs i x → p x ≡ false
    → filter p (take (i + 1) xs) ≡ filter p (take i xs)
filter_left {X} p xs i x h at fails =
    let none : filter p (x ∷ []) ≡ [] = rw fails in
    ap (filter p) (take_more xs i x h ∙ ap (λ (z : X). take i xs ++ z ∷ []) (sym at))
    ∙ filter-append p (take i xs) (x ∷ [])
    ∙ ap (λ (z : List X). filter p (take i xs) ++ z) none
    ∙ append-nil (filter p (take i xs))

-- one element more, of which f gives y
pub pushed : {X Y : Type 0} (f : X → Y) (xs xs' : List X) (x : X) (y : Y) → xs' ≡ xs ++ x ∷ [] → f x ≡ y → map f xs' ≡ map f xs ++ y ∷ []
pushed {X} {Y} f xs xs' x y p e = ap (map f) p ∙ map_push f xs x ∙ ap (λ (z : Y). map f xs ++ z ∷ []) e
