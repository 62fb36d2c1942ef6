use Rattle.route_graph.proofs.Takers.{IsPassed}
use Rattle.route_graph.proofs.table.RouteScope.taker.Given as goal

abbrev pub invariant-loop-rule : goal.invariant-loop-rule
invariant-loop-rule g l = IsPassed l.rule-items l.tag l.rule-index
