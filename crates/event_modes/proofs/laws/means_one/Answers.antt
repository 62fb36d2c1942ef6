use Rattle.event_modes.proofs.One.{means_one}
use Rattle.event_modes.proofs.laws.means_one.Goals as goal

pub returns : goal.returns
returns c = means_one
