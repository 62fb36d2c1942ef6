use Rattle.std.proofs.Common.{◌≡◌, take}
use Rattle.std.specs.List.{filter_map}
use Rattle.route_graph.specs.Table.{hop_of}
use Rattle.route_graph.proofs.table.hops_of_outputs.Given as goal

abbrev pub invariant-loop-output : goal.invariant-loop-output
invariant-loop-output g l = l.hops.items ≡ filter_map hop_of (take l.output-index l.outputs)
