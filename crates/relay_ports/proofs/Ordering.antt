-- Outputs that are looked at one after another: their numbers, and their paths.
use Rattle.std.proofs.Common.{ℕ, ◌≡◌, ◌≢◌, ◌<◌, ◌≤◌, ◌+◌, ◌∙◌, ◌⊎◌, inl, inr, List, [], ◌∷◌, ◌++◌, length, get_or, take, ap, refl, sym, subst, arith, Option, None, Some, Bool}
use Rattle.std.specs.Prelude.{◌↔◌, All, IfSome, IsTrue, slice_get, unwrap_or, slice_index_or}
use Rattle.std.specs.Option.{option_copied}
use Rattle.std.specs.Borrow.{Bor}
use Rattle.std.proofs.lemmas.Bool.{cases_lt}
use Rattle.std.proofs.lemmas.List.{take_more, get_or-take, get_or_default, length-take-le}
use Rattle.std.proofs.lemmas.List.Quantifiers.{all_pairs_push}
use Rattle.std.proofs.lemmas.Option.{slice_get_read, slice_get_cases, slice_get_within}
use Rattle.relay_ports.specs.declared.buffered.BufferedOutput.{BufferedOutput}
use Rattle.relay_ports.specs.Outputs.{AreInOrder, AreOther, HaveOther, HaveOwnPaths, number_of}

-- the first so many outputs have the numbers of their places
abbrev pub InOrderBefore : {A : Type 0} → List (BufferedOutput A) → ℕ → Type 0
InOrderBefore outputs n = (place : ℕ) → place < n → IfSome (slice_get outputs place) (λ found. number_of found ≡ place)

module _ {A : Type 0} (outputs : List (BufferedOutput A)) where
  -- one more has
  pub in_order_more : (n : ℕ) (x : BufferedOutput A) → n < length outputs → x ≡ get_or outputs n x → number_of x ≡ n → InOrderBefore outputs n → InOrderBefore outputs (n + 1)
  in_order_more n x less is at before place below = by (cases_lt place n)
    where
      by : (place < n) ⊎ (n ≤ place) → IfSome (slice_get outputs place) (λ found. number_of found ≡ place)
      by (inl early) = before place early
      by (inr past) =
          let same : n ≡ place = omega arith in
          let here : slice_get outputs n ≡ Some x = slice_get_read outputs (length outputs) n x refl less is in
          subst (λ (k : ℕ). IfSome (slice_get outputs k) (λ found. number_of found ≡ k)) same
          (subst (λ (o : Option (BufferedOutput A)). IfSome o (λ found. number_of found ≡ n)) (sym here) at)

  -- all have
  pub in_order_all : (n : ℕ) → length outputs ≤ n → InOrderBefore outputs n → AreInOrder outputs
  in_order_all n end before place = by (slice_get_cases outputs place).1
    where
      by : ((x : BufferedOutput A) × (place < length outputs) × (slice_get outputs place ≡ Some x) × (get_or outputs place x ≡ x)) ⊎ ((length outputs ≤ place) × (slice_get outputs place ≡ None))
          → IfSome (slice_get outputs place) (λ found. number_of found ≡ place)
      by (inl h) = let less : place < length outputs = h.1 in before place (omega arith)
      by (inr h) = subst (λ (o : Option (BufferedOutput A)). IfSome o (λ found. number_of found ≡ place)) (sym h.1) tt

  -- where they are in order, the one at this place has its number
  pub in_order_here : (n : ℕ) (x : BufferedOutput A) → n < length outputs → x ≡ get_or outputs n x → AreInOrder outputs → number_of x ≡ n
  in_order_here n x less is all =
      subst (λ (o : Option (BufferedOutput A)). IfSome o (λ found. number_of found ≡ n)) (slice_get_read outputs (length outputs) n x refl less is) (all n)

  -- no two of the first so many share a path, and the next shares none with them
  pub own_more : (n : ℕ) (x : BufferedOutput A) → n < length outputs → x ≡ get_or outputs n x → All (λ other. HaveOther other x) (take n outputs)
      → HaveOwnPaths (take n outputs) → HaveOwnPaths (take (n + 1) outputs)
  own_more n x less is apart before =
      subst HaveOwnPaths (ap (λ (y : BufferedOutput A). take n outputs ++ y ∷ []) is ∙ sym (take_more outputs n x less)) (all_pairs_push HaveOther (take n outputs) x before apart)

  -- where no two share a path, the one at this place shares none with those before it
  pub own_here : (n : ℕ) (x : BufferedOutput A) → n < length outputs → x ≡ get_or outputs n x → HaveOwnPaths outputs → All (λ other. HaveOther other x) (take n outputs)
  own_here n x less is all k d inside =
      let short : length (take n outputs) ≡ n = length-take-le n outputs (omega arith) in
      let below : k < n = omega (arith, short) in
      let there : get_or (take n outputs) k d ≡ get_or outputs k d = get_or-take n outputs k d below in
      let here : get_or outputs n d ≡ x = get_or_default outputs n d x less ∙ sym is in
      subst (λ (y : BufferedOutput A). HaveOther y x) (sym there) (subst (λ (y : BufferedOutput A). HaveOther (get_or outputs k d) y) here (all k n d below less))

-- of two paths it is said that they differ
pub two_paths : (one other : Option (Bor (List ℕ))) (p q : Bor (List ℕ)) → one ≡ Some p → other ≡ Some q → (result : Bool)
    → (IsTrue result ↔ (p.now ≢ q.now)) → IsTrue result ↔ AreOther (option_copied one) (option_copied other)
two_paths one other p q e f result d = (
  (λ t path a b. d.0 t (content (sym (ap option_copied e) ∙ a) ∙ sym (content (sym (ap option_copied f) ∙ b)))),
  (λ h. d.1 (λ same. h p.now (ap option_copied e) (ap option_copied f ∙ ap Some (sym same)))),
)
  where
    content : {x y : List ℕ} → Some x ≡ Some y → x ≡ y
    content s = ap (λ (o : Option (List ℕ)). unwrap_or o []) s
