use Rattle.std.proofs.Common.{◌+◌, length}
use Rattle.route_graph.proofs.Search.{IsKnown}
use Rattle.route_graph.proofs.Weights.{weight}
use Rattle.route_graph.proofs.routes.Routes.way.Given as goal

abbrev pub invariant-loop-step : goal.invariant-loop-step
invariant-loop-step g l = IsKnown l.self l.tag l.fn.scope.0 l.visit

abbrev pub decreases-loop-step : goal.decreases-loop-step
decreases-loop-step g l = length l.visit.coming + weight l.visit.marks l.self
