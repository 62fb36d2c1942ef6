use Rattle.std.proofs.Common.{refl}
use Rattle.relay_conf.proofs.outputs.forward.Goals as goal

pub returns : goal.returns
returns g c = record {
  servers = rw c.children_of-children.ensures at c.in_ok-servers.ensures;
  require_ack_response = rw c.pairs_of-pairs.ensures at c.flag_or.ensures;
  ack_response_timeout = rw c.pairs_of-pairs.ensures at c.time_or.ensures;
  security = rw c.children_of-children.ensures at c.in_ok-security_in.ensures;
  buffer = rw c.children_of-children.ensures at c.in_ok-buffer_in.ensures;
  number = refl;
}
