use Rattle.std.proofs.Common.{◌++◌, [], ◌∷◌, List, ap}
use Rattle.std.proofs.lemmas.List.{take_all, map_more}
use Rattle.route_graph.specs.Table.{Rule, rules_of}
use Rattle.route_graph.proofs.routes.Routes.new.Goals as goal

pub loop-scope-preserved : goal.loop-scope-preserved
loop-scope-preserved g c =
    let less = rw c.deref-scope-items.ensures.value at c.loop-scope-test.true in
    let is = rw c.deref-scope-items.ensures.value at c.scope-item.is in
    let more = map_more (rules_of {A = g.row.B.Denot}) c.args.relay.now.scopes.items c.loop-scope.scope-index c.scope-item.result less in
    rw (c.in_ok-push.ensures.items, more, ← is, c.in_ok-copied.ensures) (ap (λ (made : List (List Rule)). made ++ rules_of c.scope-item.result ∷ []) c.loop-scope.invariant)

pub returns : goal.returns
returns g c =
    let past = rw c.deref-scope-items.ensures.value at c.loop-scope-test.false in
    rw (take_all c.loop-scope.scope-index c.args.relay.now.scopes.items past) at c.loop-scope.invariant
