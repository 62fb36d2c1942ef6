use Rattle.std.proofs.Common.{◌≡◌, ◌++◌, take}
use Rattle.relayctl.specs.Checking.{all_no_lines}
use Rattle.relayctl.proofs.listing.put_all_places.Given as goal

abbrev pub invariant-loop-one : goal.invariant-loop-one
invariant-loop-one g l = l.lines.items ≡ l.fn.lines.items ++ all_no_lines (take l.one-index l.broken)
