use Rattle.std.proofs.Common.{arith}
use Rattle.std.proofs.lemmas.List.{take_all}
use Rattle.relay_net.proofs.Pairing.{no_lookups, one_lookup, taken_more}
use Rattle.relay_net.proofs.lookup.lookups_of.Goals as goal

pub loop-node-preserved : goal.loop-node-preserved
loop-node-preserved g c = rw (c.in_ok-push.ensures.items, taken_more c.args.nodes.now c.loop-node.node-index c.node-item.result (omega arith) c.node-item.is)
    (one_lookup _ _ c.in_ok-new.field-0 c.node-item.result c.loop-node.invariant c.in_ok-new.ensures)

pub loop-node-init : goal.loop-node-init
loop-node-init g c = no_lookups _ c.in_ok-lookups.ensures.items

pub returns : goal.returns
returns g c = rw (take_all c.loop-node.node-index c.args.nodes.now c.loop-node-test.false) at c.loop-node.invariant
