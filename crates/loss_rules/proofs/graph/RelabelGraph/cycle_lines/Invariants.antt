use Rattle.std.specs.Prelude.{[]}
use Rattle.loss_rules.specs.Lines.{AddsLines}
use Rattle.loss_rules.proofs.Cycles.{IsBefore}
use Rattle.loss_rules.proofs.graph.RelabelGraph.cycle_lines.Given as goal

abbrev pub invariant-loop-scope : goal.invariant-loop-scope
invariant-loop-scope g l = AddsLines (IsBefore l.self l.scope) [] l.lines.items
