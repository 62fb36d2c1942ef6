-- The option of a message (Forward Protocol Specification v1, "Option").
use Rattle.std.specs.Prelude.{ℕ, ◌≡◌, ◌≤◌, ◌⊎◌, List, length, Option, Some, None, codes}
use Rattle.std.specs.List.{AllByRecursion}
use Rattle.msgpack_bytes.specs.Kinds.{IsNil, IsText}
use Rattle.msgpack_bytes.specs.Containers.{Pair, IsMap}
use Rattle.msgpack_bytes.specs.Names.{IsNamed, HasNoKey, IsLastValue}

-- the most bytes of a chunk's item, its header among them
abbrev pub longest_chunk : ℕ
longest_chunk = 1024

-- what may stand under "chunk": nil for none, or a str or bin that is not too long
abbrev pub IsChunk : List ℕ → Type 0
IsChunk value = IsNil value
    ⊎ ((content : List ℕ) × IsText value content × (length value ≤ longest_chunk))

-- what may stand under "compressed": nil, or the name of what is sent as it is
abbrev pub IsUncompressed : List ℕ → Type 0
IsUncompressed value = IsNil value ⊎ IsText value (codes "text")

-- a pair that an option may have: "size" and unknown keys may have any value
pub record IsFit (pair : Pair) : Type 0 where
  pub chunk : IsNamed (codes "chunk") pair → IsChunk pair.value
  pub compressed : IsNamed (codes "compressed") pair → IsUncompressed pair.value

-- the item that an acknowledgement has to repeat: the last "chunk", unless that is nil or there is
-- none
abbrev pub AsksFor : List Pair → Option (List ℕ) → Type 0
AsksFor pairs None = HasNoKey (codes "chunk") pairs
    ⊎ ((value : List ℕ) × IsLastValue (codes "chunk") pairs value × IsNil value)
AsksFor pairs (Some item) = IsLastValue (codes "chunk") pairs item × (IsNil item → ⊥)

-- what the last element of a message asks for, if there is one; nil is no option
abbrev pub IsOption : Option (List ℕ) → Option (List ℕ) → Type 0
IsOption None ack = ack ≡ None
IsOption (Some bytes) ack = (IsNil bytes × (ack ≡ None))
    ⊎ ((pairs : List Pair) × IsMap pairs bytes × AllByRecursion IsFit pairs × AsksFor pairs ack)
