-- Items: whole lists of bytes, as the MessagePack specification has them.
use Rattle.std.specs.Prelude.{ℕ, zero, suc, ◌≡◌, ◌+◌, ◌<◌, ◌≤◌, ◌⊎◌, List, [], ◌∷◌, ◌++◌, length}
use Rattle.std.specs.List.{AllByRecursion, concat}
use Rattle.msgpack_bytes.specs.declared.format.Kind.{Kind}
use Rattle.msgpack_bytes.specs.declared.format.Container.{Container}
use Rattle.msgpack_bytes.specs.declared.format.Shape.TheVariants.{Fixed, Sized, Holds, Counted}
use Rattle.msgpack_bytes.specs.Format.{big_endian, items_in, shape_of}

-- the header of a scalar of this kind with n bytes of content: a first byte, and the length if
-- there is one
abbrev pub IsScalarHeader : Kind → ℕ → List ℕ → Type 0
IsScalarHeader kind n [] = ⊥
IsScalarHeader kind n (first ∷ length_bytes) =
    ((shape_of first ≡ Fixed kind n) × (length_bytes ≡ []))
    ⊎ ((extra : ℕ) × (shape_of first ≡ Sized kind (length length_bytes) extra)
    × (n ≡ big_endian length_bytes + extra))

-- the header of such a container with n entries: a first byte, and the count if there is one
abbrev pub IsContainerHeader : Container → ℕ → List ℕ → Type 0
IsContainerHeader container n [] = ⊥
IsContainerHeader container n (first ∷ count_bytes) =
    ((shape_of first ≡ Holds container n) × (count_bytes ≡ []))
    ⊎ ((shape_of first ≡ Counted container (length count_bytes)) × (n ≡ big_endian count_bytes))

-- a whole scalar of this kind: its header, and a content of the stated length
pub record Spells (kind : Kind) (bytes content : List ℕ) : Type 0 where
  pub header : List ℕ
  pub sized : IsScalarHeader kind (length content) header
  pub whole : bytes ≡ header ++ content

-- a whole scalar
pub record IsScalar (bytes : List ℕ) : Type 0 where
  pub kind : Kind
  pub content : List ℕ
  pub spelled : Spells kind bytes content

-- a whole container of n entries with these parts: its header, in any spelling, and the parts one
-- after another
pub record IsContainer (part : List ℕ → Type 0) (container : Container) (n : ℕ)
    (items : List (List ℕ)) (bytes : List ℕ) : Type 0 where
  pub header : List ℕ
  pub counted : IsContainerHeader container n header
  pub all : length items ≡ items_in container n
  pub each : AllByRecursion part items
  pub whole : bytes ≡ header ++ concat items

-- these bytes are one whole item, in which containers nest at most so deep:
-- a scalar, or a container whose items nest one less deep; an empty container is one deep
unfoldable pub Item : ℕ → List ℕ → Type 0
Item zero bytes = IsScalar bytes
Item (suc depth) bytes = IsScalar bytes
    ⊎ ((container : Container) × (n : ℕ) × (items : List (List ℕ))
    × IsContainer (Item depth) container n items bytes)

-- the greatest length of an item, in bytes
abbrev pub longest : ℕ
longest = 16777216

-- how many containers may stand one in another
abbrev pub deepest : ℕ
deepest = 64

-- an item within both limits
pub record IsItemWithin (bytes : List ℕ) : Type 0 where
  pub item : Item deepest bytes
  pub short : length bytes ≤ longest

-- no item within the limits, and a proper beginning of one
pub record IsOpen (bytes : List ℕ) : Type 0 where
  pub more : List ℕ
  pub some : 0 < length more
  pub ends : IsItemWithin (bytes ++ more)
  pub unended : IsItemWithin bytes → ⊥
