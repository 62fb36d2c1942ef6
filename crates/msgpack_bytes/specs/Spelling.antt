-- The bytes that are written: of the spellings that the format has, the shortest.
use Rattle.std.specs.Prelude.{ℕ, pos, ◌+◌, ◌^◌, ◌<◌, ◌≤◌, List, [], ◌∷◌, ◌++◌, length, slice_index, Bool, nat_lt, if◌then◌else◌}
use Rattle.std.specs.Int.{bytes_high_first}
use Rattle.msgpack_bytes.specs.Kinds.{IsInteger, IsStr, IsBin, IsArrayHeader, IsMapHeader, IsBool}

-- an integer from 0 on ("int format family": positive fixint, uint 8, 16, 32, 64)
abbrev pub uint_of : ℕ → List ℕ
uint_of n =
    if nat_lt n 0x80 then n ∷ []
    else if nat_lt n (2 ^ 8) then 0xcc ∷ bytes_high_first 1 n
    else if nat_lt n (2 ^ 16) then 0xcd ∷ bytes_high_first 2 n
    else if nat_lt n (2 ^ 32) then 0xce ∷ bytes_high_first 4 n
    else 0xcf ∷ bytes_high_first 8 n

-- the header of a str of n bytes ("str format family": fixstr, str 8, 16, 32)
abbrev pub str_header_of : ℕ → List ℕ
str_header_of n =
    if nat_lt n 32 then (0xa0 + n) ∷ []
    else if nat_lt n (2 ^ 8) then 0xd9 ∷ bytes_high_first 1 n
    else if nat_lt n (2 ^ 16) then 0xda ∷ bytes_high_first 2 n
    else 0xdb ∷ bytes_high_first 4 n

-- a str with this content
abbrev pub str_of : List ℕ → List ℕ
str_of content = str_header_of (length content) ++ content

-- the header of a bin of n bytes ("bin format family": bin 8, 16, 32)
abbrev pub bin_header_of : ℕ → List ℕ
bin_header_of n =
    if nat_lt n (2 ^ 8) then 0xc4 ∷ bytes_high_first 1 n
    else if nat_lt n (2 ^ 16) then 0xc5 ∷ bytes_high_first 2 n
    else 0xc6 ∷ bytes_high_first 4 n

-- a bin with this content
abbrev pub bin_of : List ℕ → List ℕ
bin_of content = bin_header_of (length content) ++ content

-- the header of an array of n items ("array format family": fixarray, array 16, 32)
abbrev pub array_header_of : ℕ → List ℕ
array_header_of n =
    if nat_lt n 16 then (0x90 + n) ∷ []
    else if nat_lt n (2 ^ 16) then 0xdc ∷ bytes_high_first 2 n
    else 0xdd ∷ bytes_high_first 4 n

-- the header of a map of n keys and n values ("map format family": fixmap, map 16, 32)
abbrev pub map_header_of : ℕ → List ℕ
map_header_of n =
    if nat_lt n 16 then (0x80 + n) ∷ []
    else if nat_lt n (2 ^ 16) then 0xde ∷ bytes_high_first 2 n
    else 0xdf ∷ bytes_high_first 4 n

-- a bool ("bool format family")
abbrev pub bool_of : Bool → List ℕ
bool_of value = (if value then 0xc3 else 0xc2) ∷ []

-- each element is a byte
abbrev pub IsBytes : List ℕ → Type 0
IsBytes bytes = (i : ℕ) → slice_index bytes i < 256

-- these bytes say it, and no fewer do
abbrev pub IsShortest : (List ℕ → Type 0) → List ℕ → Type 0
IsShortest Says bytes = Says bytes
    × ((other : List ℕ) → IsBytes other → Says other → length bytes ≤ length other)

-- what is written of an integer says it, in the fewest bytes
abbrev pub IsUintSpelled : Type 0
IsUintSpelled = (n : ℕ) → n < 2 ^ 64 → IsShortest (λ bytes. IsInteger bytes (pos n)) (uint_of n)

-- what is written of a str says it, in the fewest bytes
abbrev pub IsStrSpelled : Type 0
IsStrSpelled = (content : List ℕ) → length content < 2 ^ 32
    → IsShortest (λ bytes. IsStr bytes content) (str_of content)

-- what is written of a bin says it, in the fewest bytes
abbrev pub IsBinSpelled : Type 0
IsBinSpelled = (content : List ℕ) → length content < 2 ^ 32
    → IsShortest (λ bytes. IsBin bytes content) (bin_of content)

-- what is written of an array's header says it, in the fewest bytes
abbrev pub IsArraySpelled : Type 0
IsArraySpelled = (n : ℕ) → n < 2 ^ 32 → IsShortest (IsArrayHeader n) (array_header_of n)

-- what is written of a map's header says it, in the fewest bytes
abbrev pub IsMapSpelled : Type 0
IsMapSpelled = (n : ℕ) → n < 2 ^ 32 → IsShortest (IsMapHeader n) (map_header_of n)

-- what is written of a bool says it, in the fewest bytes
abbrev pub IsBoolSpelled : Type 0
IsBoolSpelled = (value : Bool) → IsShortest (IsBool value) (bool_of value)
