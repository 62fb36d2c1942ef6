use Rattle.tag_pattern.proofs.Cells.{fits_parts_cell, fits_literal_cell, fits_by_part_cell, fits_part_cell}
use Rattle.tag_pattern.proofs.row.fits_cell.Goals as goal

pub returns-in_default-AnyParts : goal.returns-in_default-AnyParts
returns-in_default-AnyParts c = rw c.in_default-AnyParts.is-1 (fits_parts_cell _ _ _ _)

pub returns-in-Literal-Literal : goal.returns-in-Literal-Literal
returns-in-Literal-Literal c =
    rw (c.in-Literal-Literal.is-0, c.in-Literal-Literal.is-1, c.eq.ensures) (fits_literal_cell _ _ c.args.below c.args.right _)

pub returns-in-Literal-AnyPart : goal.returns-in-Literal-AnyPart
returns-in-Literal-AnyPart c =
    rw (c.in-Literal-AnyPart.is-0, c.in-Literal-AnyPart.is-1) (fits_by_part_cell _ c.args.below c.args.right _)

pub returns-in-AnyPart-AnyPart : goal.returns-in-AnyPart-AnyPart
returns-in-AnyPart-AnyPart c =
    rw (c.in-AnyPart-AnyPart.is-0, c.in-AnyPart-AnyPart.is-1) (fits_part_cell c.args.below c.args.right _)
