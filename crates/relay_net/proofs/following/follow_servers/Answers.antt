use Rattle.std.proofs.Common.{List, take, subst, sym, refl, arith, ap, ◌++◌, ◌∷◌, []}
use Rattle.std.proofs.lemmas.List.{take_all}
use Rattle.relay_net.proofs.Pairing.{taken_more}
use Rattle.relay_net.specs.Network.{address_of_server}
use Rattle.relay_net.specs.Arrivals.{Grows, Through, IsArrival}
use Rattle.relay_net.proofs.Growing.{grows_none, grows_more, grows_as}
use Rattle.relay_net.proofs.following.follow_servers.Goals as goal

pub loop-server-init : goal.loop-server-init
loop-server-init g c = grows_none (λ server. IsArrival c.args.net.now c.args.wanted.now (address_of_server server) c.args.tag.now) c.args.found.now.items

pub loop-server-preserved : goal.loop-server-preserved
loop-server-preserved g c =
    let more = taken_more c.args.servers.now c.loop-server.server-index c.server-item.result (omega arith) c.server-item.is in
    let comes = rw c.as_bytes.ensures.value at c.comes_in.ensures in
    rw more (grows_more (λ server. IsArrival c.args.net.now c.args.wanted.now (address_of_server server) c.args.tag.now) _ c.server-item.result _ _ _ c.loop-server.invariant
    (grows_as _ _ _ _ (λ a. (comes a).0) (λ a. (comes a).1) c.in_ok-add.ensures))

pub returns : goal.returns
returns g c = rw (take_all c.loop-server.server-index c.args.servers.now (omega arith)) at c.loop-server.invariant
