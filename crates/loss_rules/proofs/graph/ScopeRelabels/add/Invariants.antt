use Rattle.std.proofs.Common.{◌≡◌, ◌++◌, take}
use Rattle.std.specs.List.{filter_map}
use Rattle.loss_rules.specs.Graphs.{relabel_of}
use Rattle.loss_rules.proofs.graph.ScopeRelabels.add.Given as goal

abbrev pub invariant-loop-output : goal.invariant-loop-output
invariant-loop-output g l = l.self-inside.relabels.items ≡ l.fn.self ++ filter_map relabel_of (take l.output-index l.outputs)
