-- Where reading stops for good, whatever follows: at a byte that begins no item, and at a container
-- where none may stand any more.
use Rattle.std.specs.Prelude.{ℕ, zero, suc, ◌≡◌, ◌<◌, ◌⊎◌, List, [], ◌∷◌, ◌++◌}
use Rattle.msgpack_bytes.specs.declared.format.Container.{Container}
use Rattle.msgpack_bytes.specs.declared.format.Shape.{Shape}
use Rattle.msgpack_bytes.specs.declared.format.Shape.TheVariants.{Fixed, Sized, Holds, Counted, Never}
use Rattle.msgpack_bytes.specs.Format.{items_in, shape_of}
use Rattle.msgpack_bytes.specs.Item.{IsContainerHeader, Item, deepest}
use Rattle.msgpack_bytes.specs.Parts.{Row}

-- the bytes of a container so far: its header, fewer whole items than it has, and a part of the
-- next
pub record IsWithin (part rest : List ℕ → Type 0) (bytes : List ℕ) : Type 0 where
  pub container : Container
  pub n : ℕ
  pub k : ℕ
  pub header : List ℕ
  pub before : List ℕ
  pub behind : List ℕ
  pub counted : IsContainerHeader container n header
  pub fewer : k < items_in container n
  pub parts : Row part k before
  pub next : rest behind
  pub whole : bytes ≡ header ++ (before ++ behind)

-- after these bytes of an item of this depth, the next byte begins an item in which containers may
-- nest `left` deep
unfoldable pub Awaits : ℕ → ℕ → List ℕ → Type 0
Awaits left zero bytes = (bytes ≡ []) × (left ≡ 0)
Awaits left (suc depth) bytes = ((bytes ≡ []) × (left ≡ suc depth))
    ⊎ IsWithin (Item depth) (Awaits left depth) bytes

-- first bytes of arrays and maps
abbrev pub IsOfContainer : Shape → Type 0
IsOfContainer (Fixed kind content) = ⊥
IsOfContainer (Sized kind width extra) = ⊥
IsOfContainer (Holds container count) = Unit {0}
IsOfContainer (Counted container width) = Unit {0}
IsOfContainer Never = ⊥

-- the last byte is c1, where an item begins
pub record EndsReserved (bytes : List ℕ) : Type 0 where
  pub left : ℕ
  pub front : List ℕ
  pub begins : Awaits left deepest front
  pub whole : bytes ≡ front ++ 0xc1 ∷ []

-- the last byte begins an array or a map, where no container may stand any more
pub record EndsTooDeep (bytes : List ℕ) : Type 0 where
  pub front : List ℕ
  pub byte : ℕ
  pub begins : Awaits 0 deepest front
  pub container : IsOfContainer (shape_of byte)
  pub whole : bytes ≡ front ++ byte ∷ []
