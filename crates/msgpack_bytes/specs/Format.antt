-- What a first byte says: the table "Formats" of the MessagePack specification.
use Rattle.std.specs.Prelude.{ℕ, ◌+◌, ◌-◌, ◌*◌, ◌^◌, List, [], ◌∷◌, length, nat_lt, ◌==◌, if◌then◌else◌}
use Rattle.msgpack_bytes.specs.declared.format.Kind.TheVariants.{Nil, Bool, PositiveFixint, NegativeFixint, Unsigned, Signed, Float, Str, Bin, Ext}
use Rattle.msgpack_bytes.specs.declared.format.Container.{Container}
use Rattle.msgpack_bytes.specs.declared.format.Container.TheVariants.{Array, Map}
use Rattle.msgpack_bytes.specs.declared.format.Shape.{Shape}
use Rattle.msgpack_bytes.specs.declared.format.Shape.TheVariants.{Fixed, Sized, Holds, Counted, Never}

-- the number that these bytes are, the highest first ("big-endian")
abbrev pub big_endian : List ℕ → ℕ
big_endian [] = 0
big_endian (byte ∷ bytes) = byte * 256 ^ length bytes + big_endian bytes

-- how many items a container of n entries holds: a map's entry is a key and a value
abbrev pub items_in : Container → ℕ → ℕ
items_in Array n = n
items_in Map n = 2 * n

-- what follows each first byte, row by row of the table
unfoldable pub shape_of : ℕ → Shape
shape_of first =
    if nat_lt first 0x80 then Fixed PositiveFixint 0
    else if nat_lt first 0x90 then Holds Map (first - 0x80)  -- fixmap
    else if nat_lt first 0xa0 then Holds Array (first - 0x90)  -- fixarray
    else if nat_lt first 0xc0 then Fixed Str (first - 0xa0)  -- fixstr
    else if first == 0xc0 then Fixed Nil 0
    else if first == 0xc1 then Never  -- never used
    else if first == 0xc2 then Fixed Bool 0  -- false
    else if first == 0xc3 then Fixed Bool 0  -- true
    else if first == 0xc4 then Sized Bin 1 0  -- bin 8
    else if first == 0xc5 then Sized Bin 2 0  -- bin 16
    else if first == 0xc6 then Sized Bin 4 0  -- bin 32
    else if first == 0xc7 then Sized Ext 1 1  -- ext 8: the type is one byte more
    else if first == 0xc8 then Sized Ext 2 1  -- ext 16
    else if first == 0xc9 then Sized Ext 4 1  -- ext 32
    else if first == 0xca then Fixed Float 4  -- float 32
    else if first == 0xcb then Fixed Float 8  -- float 64
    else if first == 0xcc then Fixed Unsigned 1  -- uint 8
    else if first == 0xcd then Fixed Unsigned 2  -- uint 16
    else if first == 0xce then Fixed Unsigned 4  -- uint 32
    else if first == 0xcf then Fixed Unsigned 8  -- uint 64
    else if first == 0xd0 then Fixed Signed 1  -- int 8
    else if first == 0xd1 then Fixed Signed 2  -- int 16
    else if first == 0xd2 then Fixed Signed 4  -- int 32
    else if first == 0xd3 then Fixed Signed 8  -- int 64
    else if first == 0xd4 then Fixed Ext 2  -- fixext 1: the type and 1 byte
    else if first == 0xd5 then Fixed Ext 3  -- fixext 2
    else if first == 0xd6 then Fixed Ext 5  -- fixext 4
    else if first == 0xd7 then Fixed Ext 9  -- fixext 8
    else if first == 0xd8 then Fixed Ext 17  -- fixext 16
    else if first == 0xd9 then Sized Str 1 0  -- str 8
    else if first == 0xda then Sized Str 2 0  -- str 16
    else if first == 0xdb then Sized Str 4 0  -- str 32
    else if first == 0xdc then Counted Array 2  -- array 16
    else if first == 0xdd then Counted Array 4  -- array 32
    else if first == 0xde then Counted Map 2  -- map 16
    else if first == 0xdf then Counted Map 4  -- map 32
    else Fixed NegativeFixint 0  -- e0 to ff; a list of bytes has nothing above
