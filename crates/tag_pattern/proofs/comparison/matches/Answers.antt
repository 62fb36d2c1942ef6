use Rattle.tag_pattern.specs.Items.{items_of}
use Rattle.tag_pattern.proofs.PartSteps.{matched_tag}
use Rattle.tag_pattern.proofs.comparison.matches.Goals as goal

pub returns : goal.returns
returns g c =
    let matched = matched_tag (items_of c.items-items.result.now) c.as_bytes.result.now _ _ c.last_row.ensures c.row_of_parts.ensures in
    rw (c.items-items.ensures.items, c.as_bytes.ensures.bytes) at matched
