use Rattle.std.proofs.Common.{◌≡◌, take}
use Rattle.tag_pattern.specs.Items.{items_of}
use Rattle.route_graph.proofs.table.copied_plain.Given as goal

abbrev pub invariant-loop-item : goal.invariant-loop-item
invariant-loop-item g l = items_of l.copies.items ≡ items_of (take l.item-index l.items)
