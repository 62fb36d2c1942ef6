use Rattle.event_modes.proofs.One.{never_both}
use Rattle.event_modes.proofs.laws.never_both.Goals as goal

pub returns : goal.returns
returns c = never_both
