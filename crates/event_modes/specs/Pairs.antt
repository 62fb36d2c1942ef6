-- The pairs of a map, as the keys and values that are walked over.
use Rattle.std.specs.Prelude.{ℕ, ◌≡◌, List, Option, option_map}
use Rattle.std.specs.List.{AllByRecursion}
use Rattle.std.specs.Borrow.{Bor}
use Rattle.msgpack_bytes.specs.Item.{IsItemWithin}
use Rattle.msgpack_bytes.specs.Containers.{Pair, pair_items}

-- keys and values by turns
pub record ArePairs (items : List (List ℕ)) : Type 0 where
  pub pairs : List Pair
  pub whole : items ≡ pair_items pairs
  pub texts : AllByRecursion IsItemWithin items

-- a key beside its value
abbrev pub pair_of : List ℕ → List ℕ → Pair
pair_of key value = record { key = key; value = value }

-- the bytes of a slice that may be there
abbrev pub bytes_of : Option (Bor (List ℕ)) → Option (List ℕ)
bytes_of slice = option_map (λ x. x.now) slice
