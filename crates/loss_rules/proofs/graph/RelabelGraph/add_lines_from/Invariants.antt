use Rattle.std.proofs.Common.{take}
use Rattle.loss_rules.specs.Lines.{AddsLines}
use Rattle.loss_rules.proofs.Cycles.{IsAmong}
use Rattle.loss_rules.proofs.graph.RelabelGraph.add_lines_from.Given as goal

abbrev pub invariant-loop-relabel : goal.invariant-loop-relabel
invariant-loop-relabel g l = AddsLines (IsAmong l.self l.scope (take l.relabel-index l.relabel-items)) l.fn.lines.items l.lines.items
