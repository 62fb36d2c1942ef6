use Rattle.std.proofs.Common.{◌≡◌, take, map}
use Rattle.route_graph.specs.Table.{rule_of}
use Rattle.route_graph.proofs.table.RouteScope.copied.Given as goal

abbrev pub invariant-loop-rule : goal.invariant-loop-rule
invariant-loop-rule g l = l.rules.items ≡ map rule_of (take l.rule-index l.scope.matches.items)
