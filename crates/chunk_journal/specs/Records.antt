-- The records of a journal, and how each is spelled.
use Rattle.std.specs.Prelude.{ℕ, ◌+◌, ◌<◌, ◌≤◌, ◌^◌, List, ◌∷◌, ◌++◌, length}
use Rattle.std.specs.List.{AllByRecursion, concat}
use Rattle.std.specs.Int.{w16, w32, w64, to_be_bytes}
use Rattle.event_modes.specs.Message.{longest_tag}
use Rattle.event_modes.specs.Rows.{IsStored}

-- a record, without where it lies in memory
pub data Record : Type 0 where
  Seal : (next : ℕ) → Record
  Append : (serial : ℕ) (tag : List ℕ) (entries : List (List ℕ)) → Record
  Queue : (serial : ℕ) → Record
  Purge : (serial : ℕ) → Record

-- the most bytes that may stand behind a record's length
abbrev pub longest_body : ℕ
longest_body = 16777216

-- a kind and one number of eight bytes
abbrev pub numbered : ℕ → ℕ → List ℕ
numbered kind number = kind ∷ to_be_bytes w64 number

-- how many bytes an Append has behind its length beside its tag and its entries: the kind, the
-- serial, the tag's length, and the entries' count
abbrev pub append_fixed : ℕ
append_fixed = 15

-- what an Append has before its entries, which are so many and have so many bytes
abbrev pub append_head : ℕ → List ℕ → ℕ → ℕ → List ℕ
append_head serial tag count size =
    to_be_bytes w32 (append_fixed + length tag + size)
    ++ (2 ∷ (to_be_bytes w64 serial
    ++ (to_be_bytes w16 (length tag) ++ (tag ++ to_be_bytes w32 count))))

-- what stands behind the length: the kind, and then the fields, of an Append its serial, the tag
-- behind its length, and the entries behind their count; each number has its highest byte first
abbrev pub body_of : Record → List ℕ
body_of (Seal next) = numbered 1 next
body_of (Append serial tag entries) =
    2 ∷ (to_be_bytes w64 serial
    ++ (to_be_bytes w16 (length tag)
    ++ (tag ++ (to_be_bytes w32 (length entries) ++ concat entries))))
body_of (Queue serial) = numbered 3 serial
body_of (Purge serial) = numbered 4 serial

-- the one spelling of a record: a length of four bytes, and as many bytes
abbrev pub record_bytes : Record → List ℕ
record_bytes item = to_be_bytes w32 (length (body_of item)) ++ body_of item

-- an Append's fields: a serial of 64 bits, a tag that is not too long, and stored entries
pub record IsAppend (serial : ℕ) (tag : List ℕ) (entries : List (List ℕ)) : Type 0 where
  pub serial_fits : serial < 2 ^ 64
  pub tag_fits : length tag ≤ longest_tag
  pub stored : AllByRecursion IsStored entries

-- each field is what it should be
abbrev pub HasFields : Record → Type 0
HasFields (Seal next) = next < 2 ^ 64
HasFields (Append serial tag entries) = IsAppend serial tag entries
HasFields (Queue serial) = serial < 2 ^ 64
HasFields (Purge serial) = serial < 2 ^ 64

-- what can stand in a journal
pub record IsRecord (item : Record) : Type 0 where
  pub fields : HasFields item
  pub short : length (body_of item) ≤ longest_body
