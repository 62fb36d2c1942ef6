use Rattle.std.proofs.Common.{◌∙◌, ◌≤◌, List, Option, subst}
use Rattle.mio_relay.specs.Connections.{ConnectionState}
use Rattle.mio_relay.specs.Holding.{held_in, most_held}
use Rattle.mio_relay.proofs.connections.Connections.held.Goals as goal

pub returns : goal.returns
returns g c =
    subst (λ (l : List (Option ConnectionState)). c.held_in.result ≤ most_held → held_in l ≤ most_held) (c.deref.ensures.value ∙ c.self.view_is) c.held_in.ensures
