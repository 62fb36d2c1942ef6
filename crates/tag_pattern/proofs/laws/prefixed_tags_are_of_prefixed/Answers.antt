use Rattle.tag_pattern.proofs.Prefixing.{same_behind}
use Rattle.tag_pattern.proofs.laws.prefixed_tags_are_of_prefixed.Goals as goal

pub returns : goal.returns
returns c = same_behind
