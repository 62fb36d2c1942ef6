-- The values that a map has under its names.
use Rattle.std.specs.Prelude.{ℕ, ◌≡◌, List, ◌∷◌, ◌++◌}
use Rattle.std.specs.List.{AllByRecursion}
use Rattle.msgpack_bytes.specs.Kinds.{IsText}
use Rattle.msgpack_bytes.specs.Containers.{Pair}

-- the key is this name, as a str or a bin; a key of another kind is no name
abbrev pub IsNamed : List ℕ → Pair → Type 0
IsNamed name pair = IsText pair.key name

-- no key is this name
abbrev pub HasNoKey : List ℕ → List Pair → Type 0
HasNoKey name pairs = AllByRecursion (λ pair. IsNamed name pair → ⊥) pairs

-- the value of the last key of this name
pub record IsLastValue (name : List ℕ) (pairs : List Pair) (value : List ℕ) : Type 0 where
  pub before : List Pair
  pub key : List ℕ
  pub after : List Pair
  pub named : IsText key name
  pub last : HasNoKey name after
  pub whole : pairs ≡ before ++ record { key = key; value = value } ∷ after
