use Rattle.std.proofs.Common.{drop}
use Rattle.tag_pattern.specs.Items.{items_of}
use Rattle.tag_pattern.specs.Rows.{IsRow}
use Rattle.tag_pattern.proofs.row.row_of.Given as goal

abbrev pub invariant-loop-place : goal.invariant-loop-place
invariant-loop-place g l = IsRow l.relation (drop l.place (items_of l.items)) (items_of l.others) l.row
