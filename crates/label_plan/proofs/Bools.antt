-- Answers of tests.
use Rattle.std.proofs.Common.{◌≡◌, ◌≢◌, ◌&&◌, ◌||◌, ◌==◌, ◌⊎◌, inl, inr, not, ℕ, Bool, true, false, refl, sym, ◌∙◌, eq-eqb}
use Rattle.std.proofs.lemmas.Bool.Decides.{Decides-eqb}

pub both : (a b : Bool) → (a && b) ≡ true → (a ≡ true) × (b ≡ true)
both true true e = (refl, refl)
both true false e = absurd (cc)
both false b e = absurd (cc)

pub either : (a b : Bool) → (a || b) ≡ true → (a ≡ true) ⊎ (b ≡ true)
either true b e = inl refl
either false b e = inr e

pub neither : (a b : Bool) → (a || b) ≡ false → (a ≡ false) × (b ≡ false)
neither true b e = absurd (cc)
neither false b e = (refl, e)

pub not_so : (a : Bool) → not a ≡ true → a ≡ false
not_so true e = absurd (cc)
not_so false e = refl

pub unequal : (a b : ℕ) → a ≢ b → (a == b) ≡ false
unequal a b apart = by (a == b) refl
  where
    by : (t : Bool) → (a == b) ≡ t → t ≡ false
    by true e = absurd (apart ((Decides-eqb a b).0 e))
    by false e = refl

pub differ : (a b : ℕ) → (a == b) ≡ false → a ≢ b
differ a b apart same = let is : (a == b) ≡ true = eq-eqb a b same in let clash : true ≡ false = sym is ∙ apart in absurd (cc)
