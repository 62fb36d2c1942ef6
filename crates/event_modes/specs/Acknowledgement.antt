-- Acknowledgements (Forward Protocol Specification v1, "Response").
use Rattle.std.specs.Prelude.{ℕ, List, ◌∷◌, codes}
use Rattle.msgpack_bytes.specs.Item.{IsItemWithin}
use Rattle.msgpack_bytes.specs.Kinds.{IsText}
use Rattle.msgpack_bytes.specs.Containers.{Pair, IsMap}
use Rattle.msgpack_bytes.specs.Names.{IsLastValue}

-- the item acknowledges the chunk with this content, however the two spell it: a map whose last
-- "ack" is a str or bin
pub record IsAcknowledgement (bytes content : List ℕ) : Type 0 where
  pub item : IsItemWithin bytes
  pub pairs : List Pair
  pub map : IsMap pairs bytes
  pub value : List ℕ
  pub last : IsLastValue (codes "ack") pairs value
  pub text : IsText value content

-- the acknowledgement that is written for a chunk: {"ack": the chunk's item as it came}
abbrev pub acknowledgement_of : List ℕ → List ℕ
acknowledgement_of item = 0x81 ∷ 0xa3 ∷ 0x61 ∷ 0x63 ∷ 0x6b ∷ item
