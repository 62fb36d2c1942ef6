use Rattle.event_modes.proofs.One.{reads_one_way}
use Rattle.event_modes.proofs.laws.reads_one_way.Goals as goal

pub returns : goal.returns
returns c = reads_one_way
