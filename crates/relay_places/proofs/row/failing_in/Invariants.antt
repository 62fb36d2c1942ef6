use Rattle.std.proofs.Common.{◌≡◌, ◌≤◌, take}
use Rattle.relay_places.specs.Rows.{failing_in}
use Rattle.relay_places.proofs.row.failing_in.Given as goal

abbrev pub invariant-loop-tally : goal.invariant-loop-tally
invariant-loop-tally l = (l.failing ≡ failing_in (take l.tally-index l.tallies)) × (l.failing ≤ l.tally-index)
