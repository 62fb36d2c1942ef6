use Rattle.tag_pattern.proofs.Cells.{parts_end}
use Rattle.tag_pattern.proofs.row.end_of_column.Goals as goal

pub returns-in-AnyParts : goal.returns-in-AnyParts
returns-in-AnyParts c = rw c.in-AnyParts.is (parts_end c.args.relation c.args.right)
