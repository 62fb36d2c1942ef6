-- Fields as they are read from the front of bytes, for the proofs of this crate.
use Rattle.std.specs.Prelude.{ℕ, List, length, take, drop, Option, Some, None, nat_lt, ◌||◌, if◌then◌else◌}
use Rattle.std.specs.Option.{option_and_then}
use Rattle.std.specs.Int.{Width, w16, w32, w64, byte_len, from_be_bytes}
use Rattle.std.specs.Borrow.{Bor}
use Rattle.event_modes.specs.Message.{longest_tag}
use Rattle.chunk_journal.specs.declared.fields.Parts.{Parts}

-- a number and the bytes behind it, without where they lie in memory
abbrev pub beside : ℕ × Bor (List ℕ) → ℕ × List ℕ
beside pair = (pair.0, pair.1.now)

-- a number of this width at the front, and what is behind it
abbrev pub number_at : Width → List ℕ → Option (ℕ × List ℕ)
number_at w bytes =
    if nat_lt (length bytes) (byte_len w) then None
    else Some (from_be_bytes w (take (byte_len w) bytes), drop (byte_len w) bytes)

-- an Append's fields, its entries still as bytes and a count
pub record Fields : Type 0 where
  pub serial : ℕ
  pub tag : List ℕ
  pub count : ℕ
  pub stored : List ℕ

-- the parts, without where they lie in memory
abbrev pub parts_of : Parts → Fields
parts_of parts = record {
  serial = parts.serial;
  tag = parts.tag.now;
  count = parts.count;
  stored = parts.stored.now;
}

-- a tag of this length at the front, and what is behind it
abbrev pub tag_at : ℕ → List ℕ → Option (List ℕ × List ℕ)
tag_at n bytes =
    if nat_lt longest_tag n || nat_lt (length bytes) n then None
    else Some (take n bytes, drop n bytes)

-- the fields of an Append from left to right
unfoldable pub parts_from : List ℕ → Option Fields
parts_from bytes =
    option_and_then (λ serial.
    option_and_then (λ n. option_and_then (λ tag. option_and_then (λ count.
    Some (record { serial = serial.0; tag = tag.0; count = count.0; stored = count.1 }))
    (number_at w32 tag.1)) (tag_at n.0 n.1)) (number_at w16 serial.1)) (number_at w64 bytes)
