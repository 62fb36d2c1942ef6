-- The lines of labels and of clients, in other words.
use Rattle.std.proofs.Common.{◌≡◌, ℕ, ◌<◌, ◌≤◌, List, Some, None, slice_get, get_or, length, sym, subst, ◌∙◌, arith, ◌⊎◌, inl, inr, All, IsSomeAnd}
use Rattle.std.proofs.lemmas.Option.{slice_get_within, slice_get-get_or, get_or_from_slice_get, slice_get_cases}
use Rattle.relay_net.specs.Network.{Network}
use Rattle.relay_net.specs.declared.node.Client.{Client}
use Rattle.loss_rules.specs.Everywhere.{BreaksAtClient, BreaksAtLabel}
use Rattle.loss_rules.specs.Lines.{Adds, KeptInList, BrokenInList}
use Rattle.loss_rules.specs.declared.label.Label.{Label}
use Rattle.loss_rules.proofs.Lines.{same_adds}
use Rattle.loss_rules.proofs.Places.{contained, place_of_contained}

pub label_adds : {A : Type 0} (labels : List (Label A)) (P : Label A → Type 0) (xs ys : List ℕ)
    → Adds (KeptInList (λ number label. P label) labels) (BrokenInList (λ number label line. (label.line ≡ line) × ¬ P label) labels) xs ys → Adds (All P labels) (BreaksAtLabel labels P) xs ys
label_adds labels P xs ys h = same_adds (KeptInList (λ number label. P label) labels) (All P labels) (BrokenInList (λ number label line. (label.line ≡ line) × ¬ P label) labels) (BreaksAtLabel labels P) xs ys
    (λ kept k d less. kept k (get_or labels k d) (slice_get-get_or labels k d less))
    (λ line b. (b.1, (contained labels b.0 b.1 b.2, b.3.0), b.3.1))
    (λ line b. (let at : (n : ℕ) × (slice_get labels n ≡ Some b.0) = place_of_contained labels b.0 b.1.0 in (at.0, b.0, at.1, (b.1.1, b.2)))) h

module _ {A : Type 0} (net : Network A) (lines : List ℕ) (P : Client A → Type 0) (same : length lines ≡ length net.clients) where
  abbrev At : ℕ → Type 0
  At number = IsSomeAnd (slice_get net.clients number) P

  there : (number line at : ℕ) → slice_get lines number ≡ Some line → line ≡ at → ¬ At number → BreaksAtClient net lines P at
  there number line at is e not = by (slice_get_cases net.clients number).1
    where
      by : ((x : Client A) × (number < length net.clients) × (slice_get net.clients number ≡ Some x) × (get_or net.clients number x ≡ x)) ⊎ ((length net.clients ≤ number) × (slice_get net.clients number ≡ None)) → BreaksAtClient net lines P at
      by (inl (x, less, x_is, got)) = ((number, x), (x_is, get_or_from_slice_get lines number line 0 is ∙ e), λ p. not (subst (λ o. IsSomeAnd o P) (sym x_is) p))
      by (inr (past, none)) = let within : number < length lines = slice_get_within lines number line is in absurd (omega arith)

  pub client_adds : (xs ys : List ℕ) → Adds (KeptInList (λ number line. At number) lines) (BrokenInList (λ number line at. (line ≡ at) × ¬ At number) lines) xs ys
      → Adds (All P net.clients) (BreaksAtClient net lines P) xs ys
  client_adds xs ys h = same_adds (KeptInList (λ number line. At number) lines) (All P net.clients) (BrokenInList (λ number line at. (line ≡ at) × ¬ At number) lines) (BreaksAtClient net lines P) xs ys
      (λ kept k d less. subst (λ o. IsSomeAnd o P) (slice_get-get_or net.clients k d less) (kept k (get_or lines k 0) (slice_get-get_or lines k 0 (omega arith))))
      (λ at b. there b.0 b.1 at b.2 b.3.0 b.3.1)
      (λ at b. (b.0.0, get_or lines b.0.0 0, slice_get-get_or lines b.0.0 0 (let within : b.0.0 < length net.clients = slice_get_within net.clients b.0.0 b.0.1 b.1.0 in omega arith), (b.1.1, λ h. b.2 (subst (λ o. IsSomeAnd o P) b.1.0 h)))) h
