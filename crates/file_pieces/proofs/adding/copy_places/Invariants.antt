use Rattle.std.proofs.Common.{◌-◌, ◌≤◌, Ok, length}
use Rattle.chunk_journal.specs.Places.{bytes_from}
use Rattle.file_pieces.specs.Pieces.{CanTake}
use Rattle.file_pieces.proofs.Steps.{Added}
use Rattle.file_pieces.proofs.adding.copy_places.Given as goal

abbrev pub invariant-loop-count : goal.invariant-loop-count
invariant-loop-count g l = record {
  within : l.count ≤ length l.places;
  so_far : Added g.D.Dir.is_honest g.D.Dir.history g.D.Dir.opened g.D.Dir.bytes_left g.D.Dir.fault_count l.from l.to l.places (λ place. place.length) bytes_from (λ seen. CanTake seen l.places) l.fn.dir l.dir l.count (Ok (tt {0}));
}

abbrev pub decreases-loop-count : goal.decreases-loop-count
decreases-loop-count g l = length l.places - l.count
