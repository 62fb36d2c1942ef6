use Rattle.std.proofs.Common.{◌≡◌, take}
use Rattle.route_graph.proofs.table.copied_plains.Given as goal

abbrev pub invariant-loop-plain : goal.invariant-loop-plain
invariant-loop-plain g l = l.copies.items ≡ take l.plain-index l.plains
