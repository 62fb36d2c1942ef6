-- What a list contains, and where it stands.
use Rattle.std.proofs.Common.{◌≡◌, ℕ, zero, suc, ◌<◌, List, [], ◌∷◌, map, length, get_or, Option, Some, None, IfSome, option_map, slice_get, refl, ap, ◌∙◌, arith, Contains}
use Rattle.std.proofs.lemmas.Option.{slice_get-map, slice_get_read, same_Some}

pub contains-get : {X : Type 0} (xs : List X) (x : X) → Contains xs x → (k : ℕ) × (slice_get xs k ≡ Some x)
contains-get [] x c = absurd (omega arith)
contains-get (y ∷ xs) x (zero, h, e) = (zero, ap Some e)
contains-get (y ∷ xs) x (suc k, h, e) = let more = contains-get xs x (k, omega arith, e) in (suc more.0, more.1)

pub get-contains : {X : Type 0} (xs : List X) (x : X) (k : ℕ) → slice_get xs k ≡ Some x → Contains xs x
get-contains [] x k e = cc
get-contains (y ∷ xs) x zero e = (zero, omega arith, same_Some y x e)
get-contains (y ∷ xs) x (suc k) e = let c = get-contains xs x k e in (suc c.0, omega arith, c.2)

-- an element, as it is shown in another list
pub contains_shown : {X Y : Type 0} (show : X → Y) (xs : List X) (k : ℕ) (x : X) (y : Y) → k < length xs → x ≡ get_or xs k x → show x ≡ y → Contains (map show xs) y
contains_shown show xs k x y within is e =
    get-contains (map show xs) y k (slice_get-map show xs k ∙ ap (option_map show) (slice_get_read xs (length xs) k x refl within is) ∙ ap Some e)

-- what is shown in another list comes from an element
pub shown_contains : {X Y : Type 0} (show : X → Y) (xs : List X) (y : Y) → Contains (map show xs) y → (k : ℕ) × (x : X) × (k < length xs) × (get_or xs k x ≡ x) × (show x ≡ y)
shown_contains show [] y c = absurd (omega arith)
shown_contains show (x ∷ xs) y (zero, h, e) = (zero, x, omega arith, refl, e)
shown_contains show (x ∷ xs) y (suc k, h, e) = let m = shown_contains show xs y (k, omega arith, e) in (suc m.0, m.1, omega arith, m.3, m.4)

-- what holds of a value, if there is one, as far as that follows
pub if_some : {X : Type 0} (o : Option X) (P Q : X → Type 0) → ((x : X) → P x → Q x) → IfSome o P → IfSome o Q
if_some None P Q then h = h
if_some (Some x) P Q then h = then x h
