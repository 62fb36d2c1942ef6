-- What the readers of records answer, for the proofs of this crate.
use Rattle.std.specs.Prelude.{ℕ, ◌≡◌, ◌<◌, ◌≤◌, List, ◌++◌, length}
use Rattle.std.specs.List.{concat}
use Rattle.std.specs.Int.{w16, w32, w64, to_be_bytes}
use Rattle.chunk_journal.specs.declared.reading.Parsed.{Parsed}
use Rattle.chunk_journal.specs.declared.reading.Parsed.TheVariants as parsed
use Rattle.chunk_journal.specs.declared.reading.Next.{Next}
use Rattle.chunk_journal.specs.declared.reading.Next.TheVariants as next
use Rattle.chunk_journal.specs.declared.reading.Frame.{Frame}
use Rattle.chunk_journal.specs.declared.reading.Frame.TheVariants as frame
use Rattle.chunk_journal.specs.Records.{Record, Seal, Append, Queue, Purge, longest_body, record_bytes, IsAppend, IsRecord}
use Rattle.chunk_journal.specs.Journal.{IsTorn, IsBad, said_length}

-- the record that was read, without where it lies in memory
abbrev pub parsed_of : {A : Type 0} → Parsed A → Record
parsed_of (parsed.Seal next) = Seal next
parsed_of (parsed.Append serial tag entries) = Append serial tag.now entries
parsed_of (parsed.Queue serial) = Queue serial
parsed_of (parsed.Purge serial) = Purge serial

-- a length that a record may have
pub record IsLength (n : ℕ) : Type 0 where
  pub some : 0 < n
  pub short : n ≤ longest_body

-- a length of four bytes, and as many bytes
abbrev pub framed : List ℕ → List ℕ
framed body = to_be_bytes w32 (length body) ++ body

-- as many bytes as a length says, and the rest
pub record IsFramed (bytes body rest : List ℕ) : Type 0 where
  pub length_fits : IsLength (length body)
  pub whole : bytes ≡ framed body ++ rest

-- what the length at the front says of the bytes
abbrev pub IsFrame : List ℕ → Frame → Type 0
IsFrame bytes frame.Torn = IsTorn bytes
IsFrame bytes frame.Bad = (IsTorn bytes → ⊥) × (IsLength (said_length bytes) → ⊥)
IsFrame bytes (frame.Whole body rest) = IsFramed bytes body.now rest.now

-- the bytes begin with this record, and then the rest
pub record Begins (bytes : List ℕ) (item : Record) (rest : List ℕ) : Type 0 where
  pub is : IsRecord item
  pub whole : bytes ≡ record_bytes item ++ rest

-- what stands at the front of the bytes
abbrev pub IsNext : {A : Type 0} → List ℕ → Next A → Type 0
IsNext bytes next.Torn = IsTorn bytes
IsNext bytes next.Bad = IsBad bytes
IsNext bytes (next.Whole read rest) = Begins bytes (parsed_of read) rest.now

-- an Append's fields: the serial, the tag behind its length, and the entries behind their count
abbrev pub append_fields : ℕ → List ℕ → List (List ℕ) → List ℕ
append_fields serial tag entries =
    to_be_bytes w64 serial
    ++ (to_be_bytes w16 (length tag)
    ++ (tag ++ (to_be_bytes w32 (length entries) ++ concat entries)))

-- the record is an Append with these fields
abbrev pub IsAppendOf : Record → List ℕ → Type 0
IsAppendOf (Seal next) bytes = ⊥
IsAppendOf (Append serial tag entries) bytes = IsAppend serial tag entries
    × (bytes ≡ append_fields serial tag entries)
IsAppendOf (Queue serial) bytes = ⊥
IsAppendOf (Purge serial) bytes = ⊥
