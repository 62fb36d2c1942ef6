-- Buffers that start again one after another.
use Rattle.std.proofs.Common.{◌≡◌, ℕ, ◌+◌, ◌<◌, ◌≤◌, ◌==◌, ◌&&◌, Bool, true, false, cond, nat_lt, refl, sym, ap, ◌∙◌, inl, inr, arith}
use Rattle.std.proofs.lemmas.Bool.{lt-ltb, le-ltb, eq-eqb, eqb-true, ne_eqb, cases_eq, cases_lt}
use Rattle.custody_store.specs.Contents.{Contents, empty_contents}
use Rattle.custody_steps.specs.Restarts.{restarted_contents}

-- a number that isn't the bound is below it where it is below the next
one_more_bound : (b k : ℕ) → (b ≡ k → ⊥) → nat_lt b k ≡ nat_lt b (k + 1)
one_more_bound b k apart = elim (cases_lt b k) as (λ _. nat_lt b k ≡ nat_lt b (k + 1)) [
  | inl less ↦ rw (lt-ltb b k less, lt-ltb b (k + 1) (omega arith)) refl
  | inr most ↦ (let above : k < b = omega (arith, apart) in rw (le-ltb b k most, le-ltb b (k + 1) (omega arith)) refl)
]

changes_one : (t : Bool) (b k : ℕ) (new old restarted first : Contents) → old ≡ cond (t && nat_lt b k) restarted first → (t ≡ true → b ≡ k → new ≡ restarted)
    → cond (t && (b == k)) new old ≡ cond (t && nat_lt b (k + 1)) restarted first
changes_one false b k new old restarted first was is = was
changes_one true b k new old restarted first was is = elim (cases_eq b k) as (λ _. cond (b == k) new old ≡ cond (nat_lt b (k + 1)) restarted first) [
  | inl e ↦ rw (eq-eqb b k e, lt-ltb b (k + 1) (omega arith)) (is refl e)
  | inr apart ↦ rw (ne_eqb b k apart) (was ∙ ap (λ (c : Bool). cond c restarted first) (one_more_bound b k apart))
]

no_buffer_yet : (t : Bool) (b : ℕ) (x y : Contents) → cond (t && nat_lt b 0) x y ≡ y
no_buffer_yet false b x y = refl
no_buffer_yet true b x y = rw (le-ltb b 0 (omega arith)) refl

empty_restarted : (in_memory : Bool) → empty_contents ≡ restarted_contents in_memory empty_contents
empty_restarted true = refl
empty_restarted false = refl

all_changed : (t : Bool) (b count : ℕ) (in_memory : Bool) (now first : Contents) → now ≡ cond (t && nat_lt b count) (restarted_contents in_memory first) first → (t ≡ true → count ≤ b → first ≡ empty_contents)
    → now ≡ cond t (restarted_contents in_memory first) first
all_changed false b count in_memory now first is empty = is
all_changed true b count in_memory now first is empty = elim (cases_lt b count) as (λ _. now ≡ restarted_contents in_memory first) [
  | inl less ↦ is ∙ rw (lt-ltb b count less) refl
  | inr most ↦ (let none = empty refl most in is ∙ rw (le-ltb b count most) (rw none (empty_restarted in_memory)))
]

-- The buffers below a number of the relay at a place have started again, as far as they are in
-- memory or not.
module _ (first : ℕ → ℕ → Contents) (in_memory : ℕ → ℕ → Bool) (place : ℕ) where
  abbrev pub StartedBelow : ℕ → (ℕ → ℕ → Contents) → Type 0
  StartedBelow count now = (p b : ℕ) → now p b ≡ cond ((p == place) && nat_lt b count) (restarted_contents (in_memory p b) (first p b)) (first p b)

  pub none_started : StartedBelow 0 first
  none_started p b = sym (no_buffer_yet (p == place) b (restarted_contents (in_memory p b) (first p b)) (first p b))

  pub one_started : (k : ℕ) (old new : ℕ → ℕ → Contents) → StartedBelow k old → ((p b : ℕ) → new p b ≡ cond ((p == place) && (b == k)) (restarted_contents (in_memory place k) (old place k)) (old p b)) → StartedBelow (k + 1) new
  one_started k old new was is p b = is p b ∙ changes_one (p == place) b k _ (old p b) (restarted_contents (in_memory p b) (first p b)) (first p b) (was p b)
      (λ t e. (let here = eqb-true p place t in
      let at_k : old place k ≡ first place k = was place k ∙ rw (le-ltb k k (omega arith)) (same_first (place == place) (first place k)) in
      rw (here, e) (ap (restarted_contents (in_memory place k)) at_k)))
    where
      same_first : (t : Bool) (x : Contents) → cond (t && false) (restarted_contents (in_memory place k) x) x ≡ x
      same_first true x = refl
      same_first false x = refl

  pub all_started : (count : ℕ) (now : ℕ → ℕ → Contents) → StartedBelow count now → ((b : ℕ) → count ≤ b → first place b ≡ empty_contents)
      → (p b : ℕ) → now p b ≡ cond (p == place) (restarted_contents (in_memory p b) (first p b)) (first p b)
  all_started count now is empty p b = all_changed (p == place) b count (in_memory p b) (now p b) (first p b) (is p b) (λ t most. rw (eqb-true p place t) (empty b most))
