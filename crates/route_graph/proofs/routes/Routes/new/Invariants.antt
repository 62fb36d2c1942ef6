use Rattle.std.proofs.Common.{◌≡◌, take, map}
use Rattle.route_graph.specs.Table.{rules_of}
use Rattle.route_graph.proofs.routes.Routes.new.Given as goal

abbrev pub invariant-loop-scope : goal.invariant-loop-scope
invariant-loop-scope g l = l.scopes.items ≡ map rules_of (take l.scope-index l.relay.scopes.items)
