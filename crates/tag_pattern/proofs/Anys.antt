-- Some element of a list, by its place and by recursion.
use Rattle.std.proofs.Common.{◌≡◌, ℕ, zero, suc, ◌<◌, ◌⊎◌, List, [], ◌∷◌, ◌++◌, length, get_or, inl, inr, refl, sym, subst, arith}
use Rattle.std.specs.List.{AllByRecursion, Any}
use Rattle.tag_pattern.specs.Grammar.{AnyByRecursion}

pub any-nil : {X : Type 0} (P : X → Type 0) → Any P [] → ⊥
any-nil P (k, x, less, is, h) = absurd (omega arith)

pub any-here : {X : Type 0} (P : X → Type 0) (x : X) (xs : List X) → P x → Any P (x ∷ xs)
any-here P x xs h = (0, x, omega arith, refl, h)

pub any-later : {X : Type 0} (P : X → Type 0) (x : X) (xs : List X) → Any P xs → Any P (x ∷ xs)
any-later P x xs (k, y, less, is, h) = (suc k, y, omega arith, is, h)

pub any-cases : {X : Type 0} (P : X → Type 0) (x : X) (xs : List X) → Any P (x ∷ xs) → P x ⊎ Any P xs
any-cases P x xs (zero, y, less, is, h) = inl (subst P (sym is) h)
any-cases P x xs (suc k, y, less, is, h) = inr (k, y, omega arith, is, h)

pub any-along : {X : Type 0} (P Q : X → Type 0) → ((x : X) → P x → Q x) → (xs : List X) → Any P xs → Any Q xs
any-along P Q f xs (k, x, less, is, h) = (k, x, less, is, f x h)

pub any-from : {X : Type 0} (P : X → Type 0) (xs : List X) → AnyByRecursion P xs → Any P xs
any-from P [] h = absurd h
any-from P (x ∷ xs) (inl h) = any-here P x xs h
any-from P (x ∷ xs) (inr h) = any-later P x xs (any-from P xs h)

pub any-none : {X : Type 0} (P Q : X → Type 0) → ((x : X) → P x → Q x → ⊥) → (xs : List X) → AllByRecursion P xs → Any Q xs → ⊥
any-none P Q f [] h k = any-nil Q k
any-none P Q f (x ∷ xs) (h, hs) k = elim (any-cases Q x xs k) [ inl here ↦ f x h here | inr later ↦ any-none P Q f xs hs later ]

-- what holds of the element at a place holds of some element
pub any-at : {X : Type 0} (P : X → Type 0) (xs : List X) (n : ℕ) (d : X) → n < length xs → P (get_or xs n d) → Any P xs
any-at P [] n d below h = absurd (omega arith)
any-at P (x ∷ xs) zero d below h = any-here P x xs h
any-at P (x ∷ xs) (suc n) d below h = any-later P x xs (any-at P xs n d (omega arith) h)
