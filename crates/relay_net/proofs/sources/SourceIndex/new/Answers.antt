use Rattle.std.proofs.Common.{suc, cond, Some, None, refl, sym, arith}
use Rattle.relay_net.specs.Sources.{among_nodes, has_source}
use Rattle.relay_net.proofs.Passing.{one_turn, no_turn, or_test}
use Rattle.relay_net.proofs.sources.SourceIndex.new.Goals as goal

pub loop-place-preserved : goal.loop-place-preserved
loop-place-preserved g c = λ address.
    one_turn (λ place nodes. among_nodes place nodes address) (λ place node. cond (has_source node address) (Some place) None)
    (λ place node nodes. sym (or_test (has_source node address) place (among_nodes (suc place) nodes address)))
    c.args.nodes.now c.loop-place.place c.index-nodes-place.result (omega arith) c.index-nodes-place.is _ _ _ (c.in_ok-add_node.ensures address) (c.loop-place.invariant address)

pub returns : goal.returns
returns g c = λ address. no_turn (λ place nodes. among_nodes place nodes address) (λ _. refl) c.args.nodes.now c.loop-place.place (omega arith) _ _ (c.loop-place.invariant address)
