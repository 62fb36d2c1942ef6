-- Who is in a list that is made from another.
use Rattle.std.proofs.Common.{◌≡◌, List, [], ◌∷◌, ◌++◌, map, sym, subst, ◌⊎◌, inl, inr, Contains}
use Rattle.std.specs.Prelude.{Any}
use Rattle.std.proofs.lemmas.List.Elements.{Contains-append_left, Contains-push_cases}
use Rattle.route_graph.proofs.Members.{cons-cases, cons-head, cons-tail, nil-none}

pub contains-map : {X Y : Type 0} (f : X → Y) (xs : List X) (x : X) → Contains xs x → Contains (map f xs) (f x)
contains-map f [] x c = absurd (nil-none x c)
contains-map f (y ∷ xs) x c = elim (cons-cases y xs x c) [
  | inl e ↦ subst (λ (z : _). Contains (f y ∷ map f xs) (f z)) e (cons-head (f y) (map f xs))
  | inr k ↦ cons-tail (f y) (map f xs) (f x) (contains-map f xs x k)
]

pub map-contains : {X Y : Type 0} (f : X → Y) (xs : List X) (y : Y) → Contains (map f xs) y → (x : X) × Contains xs x × (f x ≡ y)
map-contains f [] y c = absurd (nil-none y c)
map-contains f (x ∷ xs) y c = elim (cons-cases (f x) (map f xs) y c) [
  | inl e ↦ (x, cons-head x xs, e)
  | inr k ↦ let r = map-contains f xs y k in (r.0, cons-tail x xs r.0 r.1, r.2)
]

-- some element of a list with one more
pub any-more : {X : Type 0} (P : X → Type 0) (xs : List X) (y : X) → Any P xs → Any P (xs ++ y ∷ [])
any-more P xs y (k, x, less, is, holds) =
    let c = Contains-append_left xs (y ∷ []) x (k, less, is) in
    (c.0, x, c.1, c.2, holds)

pub any-cases : {X : Type 0} (P : X → Type 0) (xs : List X) (y : X) → Any P (xs ++ y ∷ []) → Any P xs ⊎ P y
any-cases P xs y (k, x, less, is, holds) = elim (Contains-push_cases xs y x (k, less, is)) [
  | inl c ↦ inl (c.0, x, c.1, c.2, holds)
  | inr e ↦ inr (subst P (sym e) holds)
]
