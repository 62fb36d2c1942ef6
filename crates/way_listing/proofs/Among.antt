-- Going over messages until one is found.
use Rattle.std.proofs.Common.{◌≡◌, ◌+◌, ◌<◌, ◌≤◌, ℕ, List, get_or, inl, inr, length, subst, sym, arith, Any, Contains}
use Rattle.std.proofs.lemmas.Bool.{cases_lt}
use Rattle.std.proofs.lemmas.List.{get_or_read}

-- one more isn't so
pub none_more : {X : Type 0} (P : X → Type 0) (xs : List X) (n : ℕ) (x : X) → n < length xs → x ≡ get_or xs n x → (P x → ⊥) → ((k : ℕ) (d : X) → k < n → P (get_or xs k d) → ⊥) → (k : ℕ) (d : X) → k < n + 1 → P (get_or xs k d) → ⊥
none_more P xs n x less at differs none k d before is = elim (cases_lt k n) [
  | inl early ↦ none k d early is
  | inr late ↦ (let same : k ≡ n = omega (arith, late, before) in differs (subst P (sym (get_or_read xs n x less at d)) (subst (λ (j : ℕ). P (get_or xs j d)) same is)))
]

-- of none this holds
pub none_has : {X : Type 0} (P : X → Type 0) (xs : List X) (n : ℕ) → length xs ≤ n → ((k : ℕ) (d : X) → k < n → P (get_or xs k d) → ⊥) → Any P xs → ⊥
none_has P xs n all none (k, x, less, at, is) = none k x (omega (arith, all, less)) (subst P (sym at) is)

-- none is this one
pub none_is : {X : Type 0} (xs : List X) (n : ℕ) (y : X) → length xs ≤ n → ((k : ℕ) (d : X) → k < n → get_or xs k d ≡ y → ⊥) → Contains xs y → ⊥
none_is xs n y all none (k, less, at) = none k y (omega (arith, all, less)) at
