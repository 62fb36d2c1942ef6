-- Arrays and maps, as the items that stand in them (MessagePack specification, "array format
-- family", "map format family").
use Rattle.std.specs.Prelude.{ℕ, ◌≡◌, List, [], ◌∷◌, ◌++◌, length}
use Rattle.std.specs.List.{AllByRecursion, concat, flat_map}
use Rattle.msgpack_bytes.specs.declared.format.Container.TheVariants as container
use Rattle.msgpack_bytes.specs.Item.{Item, IsContainer}
use Rattle.msgpack_bytes.specs.Kinds.{IsArrayHeader, IsMapHeader}

-- an item that stands in another has one less of the 64 containers to nest in
abbrev pub IsPart : List ℕ → Type 0
IsPart bytes = Item 63 bytes

-- an array of these elements, each of which is such an item: its header, in any spelling, and the
-- elements one after another
pub record IsArrayOf (IsElement : List ℕ → Type 0) (items : List (List ℕ))
    (bytes : List ℕ) : Type 0 where
  pub header : List ℕ
  pub counted : IsArrayHeader (length items) header
  pub each : AllByRecursion IsElement items
  pub whole : bytes ≡ header ++ concat items

-- a key of a map and its value, both as they are spelled
pub record Pair : Type 0 where
  pub key : List ℕ
  pub value : List ℕ

-- both are such items
pub record IsPairOf (IsElement : List ℕ → Type 0) (pair : Pair) : Type 0 where
  pub key : IsElement pair.key
  pub value : IsElement pair.value

-- the bytes of a pair
abbrev pub pair_bytes : Pair → List ℕ
pair_bytes pair = pair.key ++ pair.value

-- the keys and values of pairs, in order
abbrev pub pair_items : List Pair → List (List ℕ)
pair_items [] = []
pair_items (pair ∷ pairs) = pair.key ∷ pair.value ∷ pair_items pairs

-- a map of these pairs in this order, whose keys and values are such items: its header, in any
-- spelling, and the pairs one after another
pub record IsMapOf (IsElement : List ℕ → Type 0) (pairs : List Pair) (bytes : List ℕ) : Type 0 where
  pub header : List ℕ
  pub counted : IsMapHeader (length pairs) header
  pub each : AllByRecursion (IsPairOf IsElement) pairs
  pub whole : bytes ≡ header ++ flat_map pair_bytes pairs

-- an array of these items
abbrev pub IsArray : List (List ℕ) → List ℕ → Type 0
IsArray items bytes = IsContainer (Item 63) container.Array (length items) items bytes

-- both are items
abbrev pub IsPair : Pair → Type 0
IsPair = IsPairOf IsPart

-- a map of these pairs in this order
abbrev pub IsMap : List Pair → List ℕ → Type 0
IsMap pairs bytes = IsContainer (Item 63) container.Map (length pairs) (pair_items pairs) bytes
