-- The place of bytes in a journal.
use Rattle.std.specs.Prelude.{ℕ, ◌^◌}

-- so many bytes, from this one on
pub record Stretch : Type 0 where
  pub at : ℕ
  pub length : ℕ

-- a place begins below this one: a generation of a journal may have 1 TB
abbrev pub places_end : ℕ
places_end = 2 ^ 40

-- a place has fewer bytes than this: an Append's entries have fewer, since its body is at most as
-- long
abbrev pub lengths_end : ℕ
lengths_end = 2 ^ 24
