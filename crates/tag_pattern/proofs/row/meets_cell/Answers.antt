use Rattle.tag_pattern.proofs.Cells.{meets_parts_cell, parts_meet_cell, meets_literal_cell, meets_by_part_cell, meets_by_literal_cell, meets_part_cell}
use Rattle.tag_pattern.proofs.row.meets_cell.Goals as goal

pub returns-in_default-AnyParts : goal.returns-in_default-AnyParts
returns-in_default-AnyParts c = rw c.in_default-AnyParts.is-1 (meets_parts_cell _ _ _ _)

pub returns-in-AnyParts-Literal : goal.returns-in-AnyParts-Literal
returns-in-AnyParts-Literal c = rw c.in-AnyParts-Literal.is-0 (parts_meet_cell _ _ _ _)

pub returns-in-AnyParts-AnyPart : goal.returns-in-AnyParts-AnyPart
returns-in-AnyParts-AnyPart c = rw c.in-AnyParts-AnyPart.is-0 (parts_meet_cell _ _ _ _)

pub returns-in-Literal-Literal : goal.returns-in-Literal-Literal
returns-in-Literal-Literal c =
    rw (c.in-Literal-Literal.is-0, c.in-Literal-Literal.is-1, c.eq.ensures) (meets_literal_cell _ _ c.args.below c.args.right _)

pub returns-in-Literal-AnyPart : goal.returns-in-Literal-AnyPart
returns-in-Literal-AnyPart c =
    rw (c.in-Literal-AnyPart.is-0, c.in-Literal-AnyPart.is-1) (meets_by_part_cell _ c.args.below c.args.right _)

pub returns-in-AnyPart-Literal : goal.returns-in-AnyPart-Literal
returns-in-AnyPart-Literal c =
    rw (c.in-AnyPart-Literal.is-0, c.in-AnyPart-Literal.is-1) (meets_by_literal_cell _ c.args.below c.args.right _)

pub returns-in-AnyPart-AnyPart : goal.returns-in-AnyPart-AnyPart
returns-in-AnyPart-AnyPart c =
    rw (c.in-AnyPart-AnyPart.is-0, c.in-AnyPart-AnyPart.is-1) (meets_part_cell c.args.below c.args.right _)
