-- Numbers below a bound, none of them twice, are no more than the bound.
use Rattle.std.proofs.Common.{◌≡◌, ℕ, ◌<◌, ◌≤◌, Bool, true, false, eqb, List, [], ◌∷◌, length, refl, sym, subst, arith, Contains}
use Rattle.std.specs.List.{IsDistinct, AllByRecursion}
use Rattle.std.proofs.lemmas.Bool.Decides.{Decides-eqb}
use Rattle.std.proofs.lemmas.Map.Keys.{IsDistinct-cons, IsDistinct-from_apart}
use Rattle.std.proofs.lemmas.Map.Steps.{length-le_from_distinct_below}
use Rattle.std.proofs.lemmas.Map.Views.{Contains-from_any}
use Rattle.route_graph.proofs.Members.{cons-head, cons-tail}

-- No number stands in the list twice.
abbrev pub AreApart : List ℕ → Type 0
AreApart [] = Unit {0}
AreApart (x ∷ xs) = (¬ Contains xs x) × AreApart xs

not_among : (x : ℕ) (xs : List ℕ) → ¬ Contains xs x → AllByRecursion (λ y. eqb x y ≡ false) xs
not_among x [] none = tt
not_among x (y ∷ xs) none = (by (eqb x y) refl, not_among x xs (λ c. none (cons-tail y xs x c)))
  where
    by : (b : Bool) → eqb x y ≡ b → b ≡ false
    by true e = absurd (none (subst (λ z. Contains (y ∷ xs) z) (sym ((Decides-eqb x y).0 e)) (cons-head y xs)))
    by false e = refl

apart-distinct : (xs : List ℕ) → AreApart xs → IsDistinct eqb xs
apart-distinct [] apart = IsDistinct-from_apart eqb [] (λ i j d less below. absurd (omega arith))
apart-distinct (x ∷ xs) apart = IsDistinct-cons eqb x xs (not_among x xs apart.0) (apart-distinct xs apart.1)

pub apart-few : (xs : List ℕ) (bound : ℕ) → AreApart xs → ((x : ℕ) → Contains xs x → x < bound) → length xs ≤ bound
apart-few xs bound apart below = length-le_from_distinct_below xs bound (apart-distinct xs apart) (λ x e. below x (Contains-from_any {eq = eqb} (λ a b. (Decides-eqb a b).0) x xs e))
