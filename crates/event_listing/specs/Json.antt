-- Which JSON value (RFC 8259) stands for a MessagePack item, as the tokens of its text.
use Rattle.std.specs.Prelude.{ℕ, zero, suc, ℤ, pos, ◌-ℤ◌, ◌≡◌, ◌≢◌, ◌≤◌, ◌<◌, ◌%◌, ◌⊎◌, Bool, true, false, List, [], ◌∷◌, ◌++◌, length, codes, Some, from_bits, nat_lt, if◌then◌else◌}
use Rattle.std.specs.Float.{float_is_finite}
use Rattle.std.specs.Float.Ieee.{Format, binary32, binary64}
use Rattle.std.specs.Fmt.{signed_decimal}
use Rattle.std.specs.Int.{w32, w64, from_be_bytes}
use Rattle.std.specs.List.{AllByRecursion}
use Rattle.std.specs.Str.{IsUtf8}
use Rattle.base64.specs.Engines.{standard}
use Rattle.base64.specs.GeneralPurpose.{encode_of}
use Rattle.fast_float.specs.Parse.{parse_float}
use Rattle.ryu.specs.Plain.{IsPlainNumber}
use Rattle.json.specs.Token.{Token, begin_object, end_object, begin_array, end_array, key, string, number, boolean, null}
use Rattle.msgpack_bytes.specs.Containers.{Pair, IsArray, IsMap}
use Rattle.msgpack_bytes.specs.Kinds.{IsNil, IsBool, IsInteger, IsStr, IsBin, IsExt}

-- an object with this one member: it stands for an item that JSON has no value for
abbrev pub marked : List ℕ → List Token → List Token
marked name value = begin_object ∷ key name ∷ (value ++ end_object ∷ [])

-- bytes as a string: padded base64 of the standard alphabet (RFC 4648, section 4)
abbrev pub base64_tokens : List ℕ → List Token
base64_tokens content = string (encode_of standard content) ∷ []

-- the content of a str: a string where it is UTF-8, and else its bytes
pub data IsTextJson (content : List ℕ) (tokens : List Token) : Type 0 where
  Readable : IsUtf8 content → tokens ≡ string content ∷ [] → IsTextJson content tokens
  Unreadable : (IsUtf8 content → ⊥) → tokens ≡ marked (codes "$str") (base64_tokens content)
      → IsTextJson content tokens

-- the type of an extension, which is a signed byte
abbrev pub ext_type : ℕ → ℤ
ext_type byte = if nat_lt byte 128 then pos byte else pos byte -ℤ pos 256

-- an extension: its type, and its content
abbrev pub ext_tokens : ℕ → List ℕ → List Token
ext_tokens byte content = marked (codes "$ext")
    (begin_array ∷ number (signed_decimal (ext_type byte)) ∷ (base64_tokens content
    ++ end_array ∷ []))

-- a float that JSON has no number for
abbrev pub word_tokens : List ℕ → List Token
word_tokens word = marked (codes "$float") (string word ∷ [])

-- the infinities by their signs: whether they are above zero
abbrev pub infinity : Bool → List ℕ
infinity true = codes "Infinity"
infinity false = codes "-Infinity"

-- The float that these bits are in this format (IEEE 754, section 3.4), where `sign` is the bit of
-- the sign and `most` the bits of infinity: a number that reads back as it, where there is one.
pub data IsFloatJson (format : Format) (sign most bits : ℕ) (tokens : List Token) : Type 0 where
  NotANumber : most < bits % sign → tokens ≡ word_tokens (codes "NaN")
      → IsFloatJson format sign most bits tokens
  Infinite : bits % sign ≤ most → float_is_finite (from_bits format bits) ≡ false
      → tokens ≡ word_tokens (infinity (nat_lt bits sign))
      → IsFloatJson format sign most bits tokens
  Finite : (text : List ℕ) → bits % sign ≤ most → IsPlainNumber text
      → parse_float format text ≡ Some (from_bits format bits) → tokens ≡ number text ∷ []
      → IsFloatJson format sign most bits tokens

-- a float of 4 bytes
abbrev pub IsSingleJson : ℕ → List Token → Type 0
IsSingleJson = IsFloatJson binary32 0x80000000 0x7f800000

-- a float of 8 bytes
abbrev pub IsDoubleJson : ℕ → List Token → Type 0
IsDoubleJson = IsFloatJson binary64 0x8000000000000000 0x7ff0000000000000

-- the value that stands for a scalar
pub data IsScalarJson (item : List ℕ) (tokens : List Token) : Type 0 where
  Nil : IsNil item → tokens ≡ null ∷ [] → IsScalarJson item tokens
  Boolean : (value : Bool) → IsBool value item → tokens ≡ boolean value ∷ []
      → IsScalarJson item tokens
  Integer : (value : ℤ) → IsInteger item value → tokens ≡ number (signed_decimal value) ∷ []
      → IsScalarJson item tokens
  Single : (content : List ℕ) → length content ≡ 4 → item ≡ 0xca ∷ content
      → IsSingleJson (from_be_bytes w32 content) tokens → IsScalarJson item tokens
  Double : (content : List ℕ) → length content ≡ 8 → item ≡ 0xcb ∷ content
      → IsDoubleJson (from_be_bytes w64 content) tokens → IsScalarJson item tokens
  Str : (content : List ℕ) → IsStr item content → IsTextJson content tokens
      → IsScalarJson item tokens
  Bin : (content : List ℕ) → IsBin item content
      → tokens ≡ marked (codes "$bin") (base64_tokens content) → IsScalarJson item tokens
  Ext : (byte : ℕ) (content : List ℕ) → IsExt byte item content → tokens ≡ ext_tokens byte content
      → IsScalarJson item tokens

-- the values of items, one after another, where this says which value stands for one
abbrev pub AreJson : (List ℕ → List Token → Type 0) → List (List ℕ) → List Token → Type 0
AreJson Is [] tokens = tokens ≡ []
AreJson Is (item ∷ items) tokens = (first : List Token) × (rest : List Token) × Is item first
    × AreJson Is items rest × (tokens ≡ first ++ rest)

-- the value that stands for an array
pub record IsArrayJson (Is : List ℕ → List Token → Type 0) (item : List ℕ)
    (tokens : List Token) : Type 0 where
  pub items : List (List ℕ)
  pub array : IsArray items item
  pub values : List Token
  pub each : AreJson Is items values
  pub whole : tokens ≡ begin_array ∷ (values ++ end_array ∷ [])

-- a text that doesn't begin with a dollar sign, by which what is marked is told apart
pub record IsUnmarked (name : List ℕ) : Type 0 where
  pub utf8 : IsUtf8 name
  pub no_dollar : (rest : List ℕ) → name ≢ 36 ∷ rest

-- a key that can be the name of a member: a str in UTF-8 that doesn't begin with a dollar sign
pub record IsName (item name : List ℕ) : Type 0 where
  pub str : IsStr item name
  pub unmarked : IsUnmarked name

-- the key of a pair can be a name
pub record IsNamed (pair : Pair) : Type 0 where
  pub name : List ℕ
  pub is : IsName pair.key name

-- the members of an object for these pairs, in their order, also where a name comes twice
abbrev pub AreMembers : (List ℕ → List Token → Type 0) → List Pair → List Token → Type 0
AreMembers Is [] tokens = tokens ≡ []
AreMembers Is (pair ∷ pairs) tokens =
    (name : List ℕ) × (value : List Token) × (rest : List Token) × IsName pair.key name
    × Is pair.value value × AreMembers Is pairs rest × (tokens ≡ key name ∷ (value ++ rest))

-- pairs as arrays of a key and its value
abbrev pub ArePairs : (List ℕ → List Token → Type 0) → List Pair → List Token → Type 0
ArePairs Is [] tokens = tokens ≡ []
ArePairs Is (pair ∷ pairs) tokens =
    (first : List Token) × (value : List Token) × (rest : List Token) × Is pair.key first
    × Is pair.value value × ArePairs Is pairs rest
    × (tokens ≡ begin_array ∷ (first ++ (value ++ end_array ∷ rest)))

-- the value that stands for a map: an object where each key can be a name, and else its pairs
pub data IsMapJson (Is : List ℕ → List Token → Type 0) (item : List ℕ)
    (tokens : List Token) : Type 0 where
  Object : (pairs : List Pair) (members : List Token) → IsMap pairs item
      → AreMembers Is pairs members → tokens ≡ begin_object ∷ (members ++ end_object ∷ [])
      → IsMapJson Is item tokens
  Pairs : (pairs : List Pair) (values : List Token) → IsMap pairs item
      → (AllByRecursion IsNamed pairs → ⊥) → ArePairs Is pairs values
      → tokens ≡ marked (codes "$map") (begin_array ∷ (values ++ end_array ∷ []))
      → IsMapJson Is item tokens

-- the value that stands for an item in which arrays and maps nest at most so deep
unfoldable pub IsJsonWithin : ℕ → List ℕ → List Token → Type 0
IsJsonWithin zero item tokens = IsScalarJson item tokens
IsJsonWithin (suc depth) item tokens = IsScalarJson item tokens
    ⊎ (IsArrayJson (IsJsonWithin depth) item tokens ⊎ IsMapJson (IsJsonWithin depth) item tokens)

-- the value that stands for an item
pub record IsJson (item : List ℕ) (tokens : List Token) : Type 0 where
  pub depth : ℕ
  pub within : IsJsonWithin depth item tokens
