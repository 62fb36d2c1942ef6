-- Which calls of a fuse fail, one call on.
use Rattle.std.proofs.Common.{◌≡◌, ℕ, ◌+◌, ◌-◌, Bool, true, false, IsErrOf, Result, arith, refl, sym, ◌∙◌, ap}
use Rattle.std.proofs.lemmas.Grind.{common_steps}
use Rattle.disk_files.specs.declared.fuse.Fails.{Fails}
use Rattle.disk_files.specs.declared.fuse.Fails.TheVariants.{All, One, Nothing}
use Rattle.disk_files.specs.declared.dir.DirError.{DirError}
use Rattle.disk_files.specs.declared.dir.DirError.TheVariants.{Fault}
use Rattle.disk_files.specs.Faults.{FailsInTurn}
use Rattle.disk_files.specs.Fuse.{blows, next_of, failures}

-- a call that blows the fuse fails
pub blown_first : (fails : Fails) (passes : ℕ) (below : ℕ → Bool) → blows fails passes ≡ true → failures fails passes below 0 ≡ true
blown_first All passes below blown = grind (arith, common_steps)
blown_first One passes below blown = grind (arith, common_steps)
blown_first Nothing passes below blown = grind (arith, common_steps)

-- and brings the later ones a call nearer, though the device below isn't asked
pub blown_later : (fails : Fails) (passes : ℕ) (below : ℕ → Bool) → blows fails passes ≡ true → (k : ℕ)
    → failures (next_of fails) (passes - 1) below k ≡ failures fails passes below (k + 1)
blown_later All passes below blown k = grind (arith, common_steps)
blown_later One passes below blown k = grind (arith, common_steps)
blown_later Nothing passes below blown k = grind (arith, common_steps)

-- a call that is passed on fails where the device below fails
pub passed_first : (fails : Fails) (passes : ℕ) (below : ℕ → Bool) → blows fails passes ≡ false → failures fails passes below 0 ≡ below 0
passed_first All passes below passed = grind (arith, common_steps)
passed_first One passes below passed = grind (arith, common_steps)
passed_first Nothing passes below passed = refl

pub passed_later : (fails : Fails) (passes : ℕ) (below after : ℕ → Bool) → blows fails passes ≡ false → ((k : ℕ) → after k ≡ below (k + 1)) → (k : ℕ)
    → failures fails (passes - 1) after k ≡ failures fails passes below (k + 1)
passed_later All passes below after passed nearer k = grind (arith, common_steps, nearer k)
passed_later One passes below after passed nearer k = grind (arith, common_steps, nearer k, nearer (k - 1))
passed_later Nothing passes below after passed nearer k = nearer k

-- what a fuse answers fails in turn: where it doesn't pass the call on
pub not_passed : {T : Type 0} (fails fails' : Fails) (passes passes' : ℕ) (below below' : ℕ → Bool) (result : Result T DirError) → blows fails passes ≡ true → fails' ≡ next_of fails → passes' ≡ passes - 1
    → below' ≡ below → IsErrOf result Fault → FailsInTurn (failures fails passes below) (failures fails' passes' below') result
not_passed fails fails' passes passes' below below' result blown next fewer same failed = record {
  first = (λ _. blown_first fails passes below blown, λ _. failed);
  later = λ k. ap (λ f. failures f passes' below' k) next ∙ ap (λ p. failures (next_of fails) p below' k) fewer ∙ ap (λ b. failures (next_of fails) (passes - 1) b k) same ∙ blown_later fails passes below blown k;
}

-- and where it does
pub passed_on : {T : Type 0} (fails fails' : Fails) (passes passes' : ℕ) (below below' : ℕ → Bool) (result : Result T DirError) → blows fails passes ≡ false → fails' ≡ fails → passes' ≡ passes - 1
    → FailsInTurn below below' result → FailsInTurn (failures fails passes below) (failures fails' passes' below') result
passed_on fails fails' passes passes' below below' result passed same fewer inner = record {
  first = (λ failed. passed_first fails passes below passed ∙ inner.first.0 failed, λ first. inner.first.1 (sym (passed_first fails passes below passed) ∙ first));
  later = λ k. ap (λ f. failures f passes' below' k) same ∙ ap (λ p. failures fails p below' k) fewer ∙ passed_later fails passes below below' passed inner.later k;
}
