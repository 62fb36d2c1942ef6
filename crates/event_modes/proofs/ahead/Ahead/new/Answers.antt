use Rattle.event_modes.proofs.Aheads.{given_none}
use Rattle.event_modes.proofs.ahead.Ahead.new.Goals as goal

pub returns : goal.returns
returns c = λ unread. given_none _ unread c.new.ensures
