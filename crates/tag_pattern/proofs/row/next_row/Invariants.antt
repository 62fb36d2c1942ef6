use Rattle.std.proofs.Common.{◌≡◌, List, ◌∷◌, length}
use Rattle.tag_pattern.specs.Items.{Item, items_of}
use Rattle.tag_pattern.specs.Rows.{lent_item, IsRow}
use Rattle.tag_pattern.proofs.RowSteps.{IsRowFrom}
use Rattle.tag_pattern.proofs.row.next_row.Given as goal

abbrev pub invariant-loop-place : goal.invariant-loop-place
invariant-loop-place g l =
    (length l.row ≡ 33)
    × ((p : List Item) → IsRow l.relation p (items_of l.others) l.below → IsRowFrom l.relation (lent_item l.item ∷ p) (items_of l.others) l.row l.place)
