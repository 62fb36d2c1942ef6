-- The parts of a message, as it is written from the front.
use Rattle.std.specs.Prelude.{ℕ, ◌<◌, ◌^◌, List, length}
use Rattle.auth_handshake.specs.declared.write.Field.{Field}
use Rattle.auth_handshake.specs.declared.write.Field.TheVariants as field
use Rattle.msgpack_bytes.specs.Spelling.{array_header_of, map_header_of, str_of, bin_of, bool_of}

-- the bytes of a part
abbrev pub field_bytes : Field → List ℕ
field_bytes (field.Array count) = array_header_of count
field_bytes (field.Map count) = map_header_of count
field_bytes (field.Str text) = str_of text.now
field_bytes (field.Bin bytes) = bin_of bytes.now
field_bytes (field.Bool value) = bool_of value

-- a text or bytes short enough for a header
abbrev pub IsShort : Field → Type 0
IsShort (field.Array count) = Unit {0}
IsShort (field.Map count) = Unit {0}
IsShort (field.Str text) = length text.now < 2 ^ 32
IsShort (field.Bin bytes) = length bytes.now < 2 ^ 32
IsShort (field.Bool value) = Unit {0}
