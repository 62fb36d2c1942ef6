use Rattle.tag_pattern.proofs.SlotCuts.{slots_unique}
use Rattle.tag_pattern.proofs.laws.slots_are_unique.Goals as goal

pub returns : goal.returns
returns c = slots_unique
