use Rattle.std.proofs.Common.{◌≡◌, map, take}
use Rattle.relay_notices.specs.declared.slot.Tally.{Tally}
use Rattle.relay_places.specs.Rows.{total}
use Rattle.relay_places.proofs.row.failures_in.Given as goal

abbrev pub invariant-loop-tally : goal.invariant-loop-tally
invariant-loop-tally l = l.failures ≡ total (map (λ (tally : Tally). tally.failures) (take l.tally-index l.tallies))
