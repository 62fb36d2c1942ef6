use Rattle.std.proofs.Common.{◌∙◌}
use Rattle.mio_relay.proofs.Listening.{endpoints_in}
use Rattle.mio_relay.proofs.bound.BoundRelay.bind.Goals as goal

pub returns-clause-bound : goal.returns-clause-bound
returns-clause-bound g c = c.in_ok-listeners.ensures.listening.own ∙ endpoints_in c.in_ok-listeners.listeners.items
