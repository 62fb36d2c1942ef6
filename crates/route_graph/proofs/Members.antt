-- Who is in a list that begins with an element.
use Rattle.std.proofs.Common.{◌≡◌, zero, suc, List, [], ◌∷◌, refl, ◌⊎◌, inl, inr, arith, Contains}

-- an element of such a list is the first one, or is in the rest
pub cons-cases : {X : Type 0} (y : X) (xs : List X) (x : X) → Contains (y ∷ xs) x → (y ≡ x) ⊎ Contains xs x
cons-cases y xs x (zero, less, is) = inl is
cons-cases y xs x (suc k, less, is) = inr (k, omega arith, is)

pub cons-head : {X : Type 0} (x : X) (xs : List X) → Contains (x ∷ xs) x
cons-head x xs = (0, omega arith, refl)

pub cons-tail : {X : Type 0} (y : X) (xs : List X) (x : X) → Contains xs x → Contains (y ∷ xs) x
cons-tail y xs x (k, less, is) = (suc k, omega arith, is)

pub nil-none : {X : Type 0} (x : X) → Contains [] x → ⊥
nil-none x (k, less, is) = omega arith
