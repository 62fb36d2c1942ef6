use Rattle.tag_pattern.specs.Parts.{parts_of}
use Rattle.tag_pattern.proofs.Sets.{common_meets}
use Rattle.tag_pattern.proofs.laws.common_tag_meets.Goals as goal

pub returns : goal.returns
returns c p q tag = common_meets p q (parts_of tag)
