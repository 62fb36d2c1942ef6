use Rattle.std.proofs.Common.{◌≡◌, ◌++◌, map}
use Rattle.std.specs.Arc.{arc_value}
use Rattle.std.specs.Vec.Iter.{into_iter_items, into_iter_len}
use Rattle.mio_relay.specs.Connections.{AreListening, served_as, sources_in}
use Rattle.mio_relay.proofs.listener.listen.Given as goal

abbrev pub invariant-loop-source : goal.invariant-loop-source
invariant-loop-source g l = record {
  listening : AreListening (g.N.Network.bound l.network) l.listeners.items;
  sources : sources_in l.listeners.items ++ map (served_as l.number (arc_value l.routes)) (into_iter_items l.rest) ≡ map (served_as l.number (arc_value l.routes)) l.fn.sources.items;
}

abbrev pub decreases-loop-source : goal.decreases-loop-source
decreases-loop-source g l = into_iter_len l.rest
