use Rattle.std.proofs.Common.{take}
use Rattle.relay_net.specs.Network.{address_of_server}
use Rattle.relay_net.specs.Arrivals.{Grows, Through, IsArrival}
use Rattle.relay_net.proofs.following.follow_servers.Given as goal

abbrev pub invariant-loop-server : goal.invariant-loop-server
invariant-loop-server g l = Grows (Through (λ server. IsArrival l.net l.wanted (address_of_server server) l.tag) (take l.server-index l.servers)) l.fn.found.items l.found.items
