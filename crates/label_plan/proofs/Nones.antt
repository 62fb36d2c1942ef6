-- What holds where there is something, or nothing.
use Rattle.std.proofs.lemmas.Bool.{eqb-true}
use Rattle.std.proofs.Common.{◌≡◌, ◌==◌, ℕ, List, [], ◌∷◌, length, arith, refl, Bool, true, Option, Some, None, Result, Ok, Err, sym, subst}
use Rattle.std.specs.Prelude.{IfSome, IfOk, IsTrue, option_map}

pub none_listed : {X P : Type 0} (xs : List X) (count : ℕ) → true ≡ (count == 0) → count ≡ length xs → (xs ≡ [] → P) → P
none_listed [] count empty size h = h refl
none_listed (x ∷ xs) count empty size h = (let none : count ≡ 0 = eqb-true count 0 (sym empty) in absurd (omega (arith, size, none)))

-- what holds of a part of what there is
pub mapped : {X Y : Type 0} (f : X → Y) (P : Y → Type 0) (o : Option X) → IfSome o (λ x. P (f x)) → IfSome (option_map f o) P
mapped f P None h = tt
mapped f P (Some x) h = h

pub of_mapped : {X Y : Type 0} (f : X → Y) (P : Y → Type 0) (o : Option X) (p : Option Y) → p ≡ option_map f o → IfSome o (λ x. P (f x)) → IfSome p P
of_mapped f P o p e h = subst (λ q. IfSome q P) (sym e) (mapped f P o h)

-- what follows from a test follows where that was answered
pub weaker : {E P Q : Type 0} (r : Result Bool E) → IfOk r (λ only. IsTrue only → P) → (P → Q) → IfOk r (λ only. IsTrue only → Q)
weaker (Ok only) h f = λ yes. f (h yes)
weaker (Err e) h f = tt
