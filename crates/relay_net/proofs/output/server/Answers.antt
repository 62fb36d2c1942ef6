use Rattle.relay_net.proofs.Gets.{got}
use Rattle.relay_net.proofs.output.server.Goals as goal

pub returns-in-Forward : goal.returns-in-Forward
returns-in-Forward g c = rw c.in-Forward.is (got c.in-Forward.settings.servers.items c.deref.result.now c.args.number c.get.result c.deref.ensures.value c.get.ensures.lookup)
