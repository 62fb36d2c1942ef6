-- An option with a value, and what stands in a list.
use Rattle.std.proofs.Common.{◌≡◌, ℕ, zero, suc, ◌<◌, List, [], ◌∷◌, get_or, length, Option, Some, None, refl, arith, IsSomeAnd}

-- an option with a value of which something holds
pub some_and : {X : Type 0} (o : Option X) (P : X → Type 0) → IsSomeAnd o P → (x : X) × (o ≡ Some x) × P x
some_and None P h = absurd h
some_and (Some x) P h = (x, refl, h)

-- within a list no default counts
pub any_default : {X : Type 0} (xs : List X) (n : ℕ) (d e : X) → n < length xs → get_or xs n d ≡ get_or xs n e
any_default [] n d e less = absurd (omega arith)
any_default (x ∷ xs) zero d e less = refl
any_default (x ∷ xs) (suc n) d e less = any_default xs n d e (omega arith)
