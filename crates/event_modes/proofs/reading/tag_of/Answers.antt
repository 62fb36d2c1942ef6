use Rattle.std.proofs.Common.{refl}
use Rattle.event_modes.proofs.reading.tag_of.Goals as goal

pub returns-in_default : goal.returns-in_default
returns-in_default c = (refl, λ content t. c.in_default.ensures.right content t.0)
