use Rattle.relay_net.proofs.Clients.{all_entered}
use Rattle.relay_net.proofs.net.Net.clients_enter.Goals as goal

pub returns : goal.returns
returns g c = rw (← c.self.view_is) (all_entered c.self.inside.relays.items c.self.inside.clients.items c.self.invariant.0)
