use Rattle.std.proofs.Common.{take}
use Rattle.std.specs.List.{AllZip}
use Rattle.mio_relay.proofs.Ports.{IsPortAt}
use Rattle.mio_relay.proofs.ready.ReadyPorts.of.Given as goal

abbrev pub invariant-loop-listener : goal.invariant-loop-listener
invariant-loop-listener g l = AllZip IsPortAt (take l.listener-index l.listeners) l.ports.items
