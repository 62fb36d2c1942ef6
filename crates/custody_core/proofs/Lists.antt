-- What stands at a place of a list after the list changed.
use Rattle.std.proofs.Common.{◌≡◌, ℕ, zero, suc, List, [], ◌∷◌, ◌++◌, map, take, Some, slice_get, slice_set, refl, sym, ap, ◌⊎◌, inl, inr, arith, Contains}
use Rattle.std.proofs.lemmas.Option.{same_Some}
-- where an element stands, passed on to crates above
pub use Rattle.custody_store.proofs.Members.{contains-get, get-contains}

-- an element of a list that grew by one was there, or is the new one
pub get-push : {X : Type 0} (xs : List X) (x y : X) (k : ℕ) → slice_get (xs ++ x ∷ []) k ≡ Some y → (slice_get xs k ≡ Some y) ⊎ (y ≡ x)
get-push [] x y zero e = inr (sym (same_Some x y e))
get-push [] x y (suc k) e = absurd (cc)
get-push (z ∷ xs) x y zero e = inl e
get-push (z ∷ xs) x y (suc k) e = get-push xs x y k e

-- what stood somewhere stands there after the list grew
pub get-more : {X : Type 0} (xs ys : List X) (y : X) (k : ℕ) → slice_get xs k ≡ Some y → slice_get (xs ++ ys) k ≡ Some y
get-more [] ys y k e = absurd (cc)
get-more (x ∷ xs) ys y zero e = e
get-more (x ∷ xs) ys y (suc k) e = get-more xs ys y k e

-- an element of a list after one was written is that one, or was there
pub get-set : {X : Type 0} (xs : List X) (x y : X) (i k : ℕ) → slice_get (slice_set xs i x) k ≡ Some y → (slice_get xs k ≡ Some y) ⊎ ((k ≡ i) × (y ≡ x))
get-set [] x y i k e = inl e
get-set (z ∷ xs) x y zero zero e = inr (refl, sym (same_Some x y e))
get-set (z ∷ xs) x y zero (suc k) e = inl e
get-set (z ∷ xs) x y (suc i) zero e = inl e
get-set (z ∷ xs) x y (suc i) (suc k) e = elim (get-set xs x y i k e) [
  | inl h ↦ inl h
  | inr h ↦ inr (ap suc h.0, h.1)
]

-- what stood somewhere stands there after one was written, unless it was written over
pub get-after_set : {X : Type 0} (xs : List X) (x y : X) (i k : ℕ) → slice_get xs k ≡ Some y → (slice_get (slice_set xs i x) k ≡ Some y) ⊎ ((k ≡ i) × (slice_get (slice_set xs i x) k ≡ Some x))
get-after_set [] x y i k e = absurd (cc)
get-after_set (z ∷ xs) x y zero zero e = inr (refl, refl)
get-after_set (z ∷ xs) x y zero (suc k) e = inl e
get-after_set (z ∷ xs) x y (suc i) zero e = inl e
get-after_set (z ∷ xs) x y (suc i) (suc k) e = elim (get-after_set xs x y i k e) [
  | inl h ↦ inl h
  | inr h ↦ inr (ap suc h.0, h.1)
]

-- an element of a list of images is one
pub get-map : {X Y : Type 0} (f : X → Y) (xs : List X) (y : Y) (k : ℕ) → slice_get (map f xs) k ≡ Some y → (x : X) × (slice_get xs k ≡ Some x) × (y ≡ f x)
get-map f [] y k e = absurd (cc)
get-map f (x ∷ xs) y zero e = (x, refl, sym (same_Some (f x) y e))
get-map f (x ∷ xs) y (suc k) e = get-map f xs y k e

-- what is among the first elements is among them all
pub contains-take : {X : Type 0} (n : ℕ) (xs : List X) (x : X) → Contains (take n xs) x → Contains xs x
contains-take zero xs x c = absurd (omega arith)
contains-take (suc n) [] x c = c
contains-take (suc n) (y ∷ xs) x (zero, less, is) = (0, omega arith, is)
contains-take (suc n) (y ∷ xs) x (suc k, less, is) = let r = contains-take n xs x (k, omega arith, is) in (suc r.0, omega arith, r.2)
