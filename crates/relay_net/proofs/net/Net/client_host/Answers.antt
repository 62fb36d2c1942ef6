use Rattle.std.proofs.Common.{Some}
use Rattle.relay_net.proofs.Gets.{got}
use Rattle.relay_net.proofs.Hosts.{client_host}
use Rattle.relay_net.proofs.net.Net.client_host.Goals as goal

pub returns : goal.returns
returns g c =
    let clients = c.self.inside.clients.items in
    let client = c.in_ok-client.client in
    let at = got clients c.deref.result.now c.args.number (Some client) c.deref.ensures.value c.in_ok-client.ensures.lookup in
    rw (← c.self.view_is) (client_host c.self.inside.relays.items c.deref-2.result.now clients c.args.number client.now c.host.result.now at c.deref-2.ensures.value c.host.ensures)
