use Rattle.std.proofs.Common.{◌≡◌, ◌+◌, ◌-◌, ◌≤◌, ◌++◌, List, ℕ, length, take, vec_len, vec_capacity}
use Rattle.stream_listing.specs.HexText.{digits_of, AreDigitsUpTo}
use Rattle.stream_listing.proofs.hex_text.HexText.read.Given as goal

abbrev pub invariant-loop-digit : goal.invariant-loop-digit
invariant-loop-digit g l = record {
  room : vec_len l.bytes + (length l.piece - l.digit-index) ≤ vec_capacity l.bytes;
  added : List ℕ;
  read : AreDigitsUpTo (l.fn.self ++ digits_of (take l.digit-index l.piece)) added l.self;
  grown : l.bytes.items ≡ l.fn.bytes.items ++ added;
}
