use Rattle.std.proofs.Common.{◌∙◌, refl, ap, sym, arith}
use Rattle.std.specs.List.{filter_map}
use Rattle.std.proofs.lemmas.List.{take_all, append-nil}
use Rattle.route_graph.specs.Table.{hop_of}
use Rattle.route_graph.proofs.Numbers.{hops-more}
use Rattle.route_graph.proofs.table.hops_of_outputs.Goals as goal
use Rattle.route_graph.proofs.table.hops_of_outputs.Goals.{in-Some+in_ok-push, in_default}

pub loop-output-preserved : goal.loop-output-preserved
loop-output-preserved g c = hops-more c.args.outputs.now c.loop-output.output-index c.output-item.result c.loop-output.hops.items c.match-taken_hop.hops.items (omega arith) c.output-item.is c.loop-output.invariant (elim c.match-taken_hop.branch [
  | in-Some+in_ok-push w ↦ rw (w.hops-is, w.in_ok-push.ensures.items, ← c.taken_hop.ensures, w.in-Some.is) refl
  | in_default w ↦ rw (w.hops-is, ← c.taken_hop.ensures, w.in_default.is) (sym (append-nil c.loop-output.hops.items))
])

pub returns : goal.returns
returns g c = c.loop-output.invariant ∙ ap (filter_map hop_of) (take_all c.loop-output.output-index c.args.outputs.now (omega arith))
