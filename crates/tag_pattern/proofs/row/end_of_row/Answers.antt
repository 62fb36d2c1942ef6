use Rattle.tag_pattern.proofs.Cells.{meets_end}
use Rattle.tag_pattern.proofs.row.end_of_row.Goals as goal

pub returns-in-Meets-AnyParts : goal.returns-in-Meets-AnyParts
returns-in-Meets-AnyParts c = rw (c.in-Meets-AnyParts.is-0, c.in-Meets-AnyParts.is-1) (meets_end c.args.below)
