use Rattle.std.proofs.Common.{◌≡◌, ◌++◌, ◌∷◌, take}
use Rattle.relayctl.specs.Checking.{no_lines}
use Rattle.relayctl.proofs.listing.put_places.Given as goal

abbrev pub invariant-loop-place : goal.invariant-loop-place
invariant-loop-place g l = l.lines.items ≡ l.fn.lines.items ++ no_lines l.one.rule (l.one.place ∷ take l.place-index l.place-items)
