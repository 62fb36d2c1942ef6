use Rattle.std.proofs.Common.{take}
use Rattle.relay_net.specs.Lookups.{AreLookups}
use Rattle.relay_net.proofs.lookup.lookups_of.Given as goal

abbrev pub invariant-loop-node : goal.invariant-loop-node
invariant-loop-node g l = AreLookups l.lookups.items (take l.node-index l.nodes)
