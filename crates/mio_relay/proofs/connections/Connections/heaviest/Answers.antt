use Rattle.std.proofs.Common.{◌∙◌, List, Option, subst}
use Rattle.mio_relay.specs.Connections.{ConnectionState}
use Rattle.mio_relay.specs.Holding.{HoldsMost}
use Rattle.mio_relay.proofs.connections.Connections.heaviest.Goals as goal

pub returns : goal.returns
returns g c = subst (λ (l : List (Option ConnectionState)). HoldsMost c.heaviest_of.result l) (c.deref.ensures.value ∙ c.self.view_is) c.heaviest_of.ensures
