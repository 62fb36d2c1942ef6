use Rattle.std.proofs.Common.{List, arith, subst}
use Rattle.std.specs.List.{AllZip}
use Rattle.std.proofs.lemmas.List.{take_all}
use Rattle.mio_relay.specs.Connections.{Hosted}
use Rattle.mio_relay.proofs.Ports.{IsPortAt, are_ports, port_more}
use Rattle.mio_relay.proofs.ready.ReadyPorts.of.Goals as goal

pub loop-listener-preserved : goal.loop-listener-preserved
loop-listener-preserved g c =
    port_more (g.N.Network.bound c.args.network.now) c.args.listeners.now c.loop-listener.listener-index c.listener-item.result c.loop-listener.ports.items c.push.new.self.items c.port.result
    (g.N.Network.number c.socket.result.now) c.requires (omega arith) c.listener-item.is c.socket.ensures c.port.ensures.bound c.in_ok-push.ensures.items c.loop-listener.invariant

pub returns : goal.returns
returns g c =
    are_ports c.args.listeners.now c.loop-listener.ports.items
    (subst (λ (l : List Hosted). AllZip IsPortAt l c.loop-listener.ports.items) (take_all c.loop-listener.listener-index c.args.listeners.now c.loop-listener-test.false) c.loop-listener.invariant)
