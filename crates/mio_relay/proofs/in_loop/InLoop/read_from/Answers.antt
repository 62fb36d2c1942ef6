use Rattle.std.proofs.Common.{◌∙◌, refl}
use Rattle.mio_relay.proofs.Turning.{takes_standing}
use Rattle.mio_relay.proofs.in_loop.InLoop.read_from.Goals as goal

pub returns-clause-takes : goal.returns-clause-takes
returns-clause-takes g c = takes_standing _ _ _ c.self.view_is refl c.read.ensures.time c.read.ensures.stands

pub invariant_of-self : goal.invariant_of-self
invariant_of-self g c = (c.self.invariant.0, c.read.ensures.goes _ c.self.invariant.1, c.read.ensures.lanes.terms ∙ c.self.invariant.2)
