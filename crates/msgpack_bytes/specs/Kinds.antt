-- Headers and items of each kind, in any spelling (MessagePack specification, the format families).
use Rattle.std.specs.Prelude.{ℕ, ℤ, pos, ◌-ℤ◌, ◌≡◌, ◌*◌, ◌^◌, ◌<◌, ◌≤◌, ◌⊎◌, List, [], ◌∷◌, length, Bool, nat_lt, if◌then◌else◌}
use Rattle.msgpack_bytes.specs.declared.format.Kind.TheVariants as kind
use Rattle.msgpack_bytes.specs.declared.format.Container.TheVariants as container
use Rattle.msgpack_bytes.specs.Format.{big_endian}
use Rattle.msgpack_bytes.specs.Item.{IsContainerHeader, Spells}

-- "nil format"
abbrev pub IsNil : List ℕ → Type 0
IsNil bytes = bytes ≡ 0xc0 ∷ []

-- "bool format family"
abbrev pub IsBool : Bool → List ℕ → Type 0
IsBool value bytes = bytes ≡ (if value then 0xc3 else 0xc2) ∷ []

-- "str format family"
abbrev pub IsStr : List ℕ → List ℕ → Type 0
IsStr bytes content = Spells kind.Str bytes content

-- "bin format family"
abbrev pub IsBin : List ℕ → List ℕ → Type 0
IsBin bytes content = Spells kind.Bin bytes content

-- a str or a bin
abbrev pub IsText : List ℕ → List ℕ → Type 0
IsText bytes content = Spells kind.Str bytes content ⊎ Spells kind.Bin bytes content

-- "ext format family": the type is the byte before the content, here as it stands, from 00 to ff
abbrev pub IsExt : ℕ → List ℕ → List ℕ → Type 0
IsExt type_byte bytes content = Spells kind.Ext bytes (type_byte ∷ content)

-- "float format family"
abbrev pub IsFloat : List ℕ → Type 0
IsFloat bytes = (content : List ℕ) × Spells kind.Float bytes content

-- the number that these bytes mean in two's complement
abbrev pub twos_complement : List ℕ → ℤ
twos_complement bytes =
    if nat_lt (2 * big_endian bytes) (2 ^ (8 * length bytes))
    then pos (big_endian bytes)
    else pos (big_endian bytes) -ℤ pos (2 ^ (8 * length bytes))

-- "int format family": a fixint is its own byte, unsigned below 80 and in two's complement from e0
-- on; no byte is above ff
pub data IsInteger (bytes : List ℕ) (value : ℤ) : Type 0 where
  Positive : (byte : ℕ) → byte < 0x80 → bytes ≡ byte ∷ [] → value ≡ pos byte → IsInteger bytes value
  Negative : (byte : ℕ) → 0xe0 ≤ byte → bytes ≡ byte ∷ [] → value ≡ pos byte -ℤ pos 0x100
      → IsInteger bytes value
  Unsigned : (content : List ℕ) → Spells kind.Unsigned bytes content
      → value ≡ pos (big_endian content) → IsInteger bytes value
  Signed : (content : List ℕ) → Spells kind.Signed bytes content → value ≡ twos_complement content
      → IsInteger bytes value

-- "array format family": the header of an array of n items
abbrev pub IsArrayHeader : ℕ → List ℕ → Type 0
IsArrayHeader n header = IsContainerHeader container.Array n header

-- "map format family": the header of a map of n keys and n values
abbrev pub IsMapHeader : ℕ → List ℕ → Type 0
IsMapHeader n header = IsContainerHeader container.Map n header
