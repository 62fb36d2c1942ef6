use Rattle.std.proofs.Common.{◌≡◌, ◌+◌, ℕ, List, ◌++◌, length, take}
use Rattle.chunk_journal.specs.Places.{bytes_at}
use Rattle.file_pieces.specs.Pieces.{part_of, places_room}
use Rattle.file_pieces.proofs.packing.pack.Given as goal

abbrev pub invariant-loop-place : goal.invariant-loop-place
invariant-loop-place l = record {
  reached : l.end ≡ l.done + places_room (take l.place-index l.places);
  so_far : (seen : List ℕ) → l.part ≡ part_of seen l.at (length l.part) → take l.end l.into ≡ take l.done l.fn.into ++ bytes_at seen (take l.place-index l.places);
}
