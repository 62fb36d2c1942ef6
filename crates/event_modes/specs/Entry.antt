-- Events (Forward Protocol Specification v1, "Entry" and "EventTime Ext Format").
use Rattle.std.specs.Prelude.{ℕ, ℤ, ◌≡◌, ◌⊎◌, List, [], ◌∷◌, ◌++◌, length}
use Rattle.msgpack_bytes.specs.Kinds.{IsInteger}
use Rattle.msgpack_bytes.specs.Containers.{Pair, IsArray, IsMap}

-- "EventTime Ext Format": an ext of type 0 with eight bytes, seconds and then nanoseconds,
-- spelled as fixext 8 or as ext 8: the two spellings that the protocol names
pub record IsEventTime (bytes : List ℕ) : Type 0 where
  pub content : List ℕ
  pub eight : length content ≡ 8
  pub spelled : (bytes ≡ 0xd7 ∷ 0x00 ∷ content) ⊎ (bytes ≡ 0xc7 ∷ 0x08 ∷ 0x00 ∷ content)

-- "Entry": a time is an integer or an EventTime
abbrev pub IsTime : List ℕ → Type 0
IsTime bytes = ((seconds : ℤ) × IsInteger bytes seconds) ⊎ IsEventTime bytes

-- "Entry": a record is a map; its keys and values are not looked at
abbrev pub IsRecord : List ℕ → Type 0
IsRecord bytes = (pairs : List Pair) × IsMap pairs bytes

-- the byte that a stored entry begins with: the shortest header of an array of two
abbrev pub entry_header : ℕ
entry_header = 0x92

-- an event as it is stored: the header, and the time's and the record's bytes as they came
abbrev pub stored_entry : List ℕ → List ℕ → List ℕ
stored_entry time fields = 0x92 ∷ time ++ fields

-- "Entry": an array of a time and a record, and how it is stored
pub record IsEntry (bytes stored : List ℕ) : Type 0 where
  pub time : List ℕ
  pub fields : List ℕ
  pub array : IsArray (time ∷ fields ∷ []) bytes
  pub is_time : IsTime time
  pub is_record : IsRecord fields
  pub is_stored : stored ≡ stored_entry time fields
