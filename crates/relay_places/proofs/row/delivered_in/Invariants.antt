use Rattle.std.proofs.Common.{◌≡◌, map, take}
use Rattle.relay_notices.specs.declared.slot.Tally.{Tally}
use Rattle.relay_places.specs.Rows.{total}
use Rattle.relay_places.proofs.row.delivered_in.Given as goal

abbrev pub invariant-loop-tally : goal.invariant-loop-tally
invariant-loop-tally l = l.delivered ≡ total (map (λ (tally : Tally). tally.works) (take l.tally-index l.tallies))
