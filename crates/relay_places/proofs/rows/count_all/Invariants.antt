use Rattle.std.proofs.Common.{◌≡◌, ◌++◌, map, take, drop}
use Rattle.relay_places.specs.Rows.{counted}
use Rattle.relay_places.proofs.rows.count_all.Given as goal

abbrev pub invariant-loop-row : goal.invariant-loop-row
invariant-loop-row g l = l.rows ≡ map (counted l.tallies l.second) (take l.row-index l.fn.rows) ++ drop l.row-index l.fn.rows
