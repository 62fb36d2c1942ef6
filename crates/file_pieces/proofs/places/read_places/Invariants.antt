use Rattle.std.proofs.Common.{◌≡◌, ◌-◌, ◌≤◌, Ok, length, take}
use Rattle.chunk_journal.specs.Places.{bytes_at}
use Rattle.file_pieces.specs.Pieces.{CanTake, places_room}
use Rattle.file_pieces.specs.Reading.{Reads}
use Rattle.file_pieces.proofs.places.read_places.Given as goal

abbrev pub invariant-loop-count : goal.invariant-loop-count
invariant-loop-count g l = record {
  within : l.count ≤ length l.places;
  reached : l.end ≡ places_room (take l.count l.places);
  so_far : Reads g.D.Dir.is_honest g.D.Dir.history g.D.Dir.opened g.D.Dir.bytes_left g.D.Dir.fault_count l.file (λ seen. CanTake seen l.places) (λ seen. take l.end l.into ≡ bytes_at seen (take l.count l.places)) l.fn.dir l.dir (Ok (tt {0}));
}

abbrev pub decreases-loop-count : goal.decreases-loop-count
decreases-loop-count g l = length l.places - l.count
