-- Taking the elements of one name one after the other.
use Rattle.std.proofs.Common.{◌≡◌, ◌+◌, ℕ, Bool, true, false, List, ◌∷◌, refl}
use Rattle.std.specs.Prelude.{filter}
use Rattle.conf_text.specs.Trees.{Tree}
use Rattle.relay_conf.specs.Elements.{is_named}
use Rattle.relay_conf.specs.Meaning.{numbered, tree_buffers}

-- the element passes
pub one_taken : {X : Type 0} (p : X → Bool) (x : X) (xs : List X) → p x ≡ true → filter p (x ∷ xs) ≡ x ∷ filter p xs
one_taken p x xs full = rw full refl

-- it doesn't
pub one_passed : {X : Type 0} (p : X → Bool) (x : X) (xs : List X) → p x ≡ false → filter p (x ∷ xs) ≡ filter p xs
one_passed p x xs empty = rw empty refl

-- an element of the name has the number that is reached
pub numbered_here : (name : List ℕ) (n m : ℕ) (t : Tree) (ts : List Tree) → is_named name t ≡ true → m ≡ n + tree_buffers t → numbered name n (t ∷ ts) ≡ (n, t) ∷ numbered name m ts
numbered_here name n m t ts full e = rw (full, e) refl

-- another one counts alone
pub numbered_behind : (name : List ℕ) (n m : ℕ) (t : Tree) (ts : List Tree) → is_named name t ≡ false → m ≡ n + tree_buffers t → numbered name n (t ∷ ts) ≡ numbered name m ts
numbered_behind name n m t ts empty e = rw (empty, e) refl
