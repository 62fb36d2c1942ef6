use Rattle.std.proofs.Common.{◌≡◌, [], length}
use Rattle.tag_pattern.specs.Items.{items_of}
use Rattle.tag_pattern.proofs.RowSteps.{IsRowFrom}
use Rattle.tag_pattern.proofs.row.last_row.Given as goal

abbrev pub invariant-loop-place : goal.invariant-loop-place
invariant-loop-place g l = (length l.row ≡ 33) × IsRowFrom l.fn.relation [] (items_of l.others) l.row l.place
