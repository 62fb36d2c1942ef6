use Rattle.std.proofs.Common.{◌-◌, ◌<◌, ◌≤◌, length, take}
use Rattle.file_pieces.specs.Runs.{LieInSpan}
use Rattle.file_pieces.proofs.runs.run_of.Given as goal

abbrev pub invariant-loop-count : goal.invariant-loop-count
invariant-loop-count l = record {
  some : 0 < l.count;
  within : l.count ≤ length l.places;
  span : LieInSpan l.at l.span (take l.count l.places);
  small : 1 < l.count → l.span ≤ l.most;
}

abbrev pub decreases-loop-count : goal.decreases-loop-count
decreases-loop-count l = length l.places - l.count
