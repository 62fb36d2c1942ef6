-- What a search through a list knows of its elements.
use Rattle.std.proofs.Common.{◌≡◌, ℕ, ◌+◌, ◌<◌, ◌≤◌, true, false, List, get_or, length, refl, sym, subst, arith, ◌⊎◌, inl, inr, ◌↔◌, IsTrue, Any, All}
use Rattle.std.proofs.lemmas.Bool.{cases_lt}
use Rattle.std.proofs.lemmas.List.Elements.{at_read}

pub not_true : IsTrue false → ⊥
not_true e = absurd (cc)

-- what is answered where it holds
pub holds_so : (P : Type 0) → P → IsTrue true ↔ P
holds_so P p = (λ _. p, λ _. refl)

module _ {X : Type 0} (P : X → Type 0) (xs : List X) where
  -- It holds of no element before this place, or of each.
  abbrev pub NoneBelow : ℕ → Type 0
  NoneBelow n = (k : ℕ) (d : X) → k < n → P (get_or xs k d) → ⊥

  abbrev pub AllBelow : ℕ → Type 0
  AllBelow n = (k : ℕ) (d : X) → k < n → P (get_or xs k d)

  pub found_any : (n : ℕ) (x : X) → n < length xs → x ≡ get_or xs n x → P x → IsTrue true ↔ Any P xs
  found_any n x less is p = (λ _. (n, x, less, sym is, p), λ _. refl)

  pub none_more : (n : ℕ) (x : X) → n < length xs → x ≡ get_or xs n x → NoneBelow n → ¬ P x → NoneBelow (n + 1)
  none_more n x less is before not k d below p = by (cases_lt k n)
    where
      by : (k < n) ⊎ (n ≤ k) → ⊥
      by (inl early) = before k d early p
      by (inr past) = let same : k ≡ n = omega arith in let Q : ℕ → Type 0 = λ m. P (get_or xs m d) in at_read xs (λ y. ¬ P y) n x less is not d (subst Q same p)

  pub no_any : (n : ℕ) → length xs ≤ n → NoneBelow n → IsTrue false ↔ Any P xs
  no_any n end none = (λ e. absurd (not_true e), λ any. absurd (none any.0 any.1 (omega (arith, any.2)) (subst P (sym any.3) any.4)))

  pub broken_all : (n : ℕ) (x : X) → n < length xs → x ≡ get_or xs n x → ¬ P x → IsTrue false ↔ All P xs
  broken_all n x less is not = (λ e. absurd (not_true e), λ all. absurd (not (subst P (sym is) (all n x less))))

  pub all_more : (n : ℕ) (x : X) → n < length xs → x ≡ get_or xs n x → AllBelow n → P x → AllBelow (n + 1)
  all_more n x less is before p k d below = by (cases_lt k n)
    where
      by : (k < n) ⊎ (n ≤ k) → P (get_or xs k d)
      by (inl early) = before k d early
      by (inr past) = let same : n ≡ k = omega arith in let Q : ℕ → Type 0 = λ m. P (get_or xs m d) in subst Q same (at_read xs P n x less is p d)

  pub all_of : (n : ℕ) → length xs ≤ n → AllBelow n → IsTrue true ↔ All P xs
  all_of n end all = (λ _ k d less. all k d (omega arith), λ _. refl)
