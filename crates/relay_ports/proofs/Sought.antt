-- What a search through a list knows of those that it has passed.
use Rattle.std.proofs.Common.{◌≡◌, ℕ, ◌+◌, ◌<◌, ◌≤◌, List, get_or, length, sym, subst, arith, ◌⊎◌, inl, inr}
use Rattle.std.specs.Prelude.{All}
use Rattle.std.specs.List.{AllWithin}
use Rattle.std.proofs.lemmas.Bool.{cases_lt}
use Rattle.std.proofs.lemmas.List.Elements.{at_read}

module _ {X : Type 0} (P : X → Type 0) (xs : List X) where
  -- it holds of one more
  pub more : (n : ℕ) (x : X) → n < length xs → x ≡ get_or xs n x → AllWithin P xs 0 n → P x → AllWithin P xs 0 (n + 1)
  more n x less is before p k d low below = by (cases_lt k n)
    where
      by : (k < n) ⊎ (n ≤ k) → P (get_or xs k d)
      by (inl early) = before k d low early
      by (inr past) = let same : n ≡ k = omega arith in let Q : ℕ → Type 0 = λ m. P (get_or xs m d) in subst Q same (at_read xs P n x less is p d)

  -- it holds of all
  pub all_of : (n : ℕ) → length xs ≤ n → AllWithin P xs 0 n → All P xs
  all_of n end all k d less = all k d (omega arith) (omega arith)

  -- it holds of the one at a place, where it holds of all
  pub at_place : (n : ℕ) (x : X) → n < length xs → x ≡ get_or xs n x → All P xs → P x
  at_place n x less is all = subst P (sym is) (all n x less)
