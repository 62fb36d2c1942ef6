use Rattle.relay_net.proofs.Gets.{got}
use Rattle.relay_net.proofs.net.Net.client.Goals as goal

pub returns : goal.returns
returns g c = rw (← c.self.view_is) (got _ _ c.args.number _ c.deref.ensures.value c.get.ensures.lookup)
