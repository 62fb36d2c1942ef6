use Rattle.std.proofs.Common.{◌≤◌, length}
use Rattle.tag_pattern.specs.Items.{items_of}
use Rattle.tag_pattern.proofs.PartSteps.{IsMatchedFrom}
use Rattle.tag_pattern.proofs.row.row_of_parts.Given as goal

abbrev pub invariant-loop-at : goal.invariant-loop-at
invariant-loop-at g l =
    (l.at ≤ l.end) × (l.end ≤ length l.bytes) × IsMatchedFrom (items_of l.others) l.fn.behind l.bytes l.at l.end l.row
