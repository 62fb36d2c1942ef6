use Rattle.std.proofs.Common.{◌++◌, [], ◌∷◌, List, ap}
use Rattle.std.proofs.lemmas.List.{take_all, map_more}
use Rattle.route_graph.specs.Table.{Rule, rule_of}
use Rattle.route_graph.proofs.table.RouteScope.copied.Goals as goal

pub loop-rule-preserved : goal.loop-rule-preserved
loop-rule-preserved g c =
    let less = rw c.deref-rule-items.ensures.value at c.loop-rule-test.true in
    let is = rw c.deref-rule-items.ensures.value at c.rule-item.is in
    let more = map_more (rule_of {A = g.row.B.Denot}) c.args.scope.now.matches.items c.loop-rule.rule-index c.rule-item.result less in
    rw (c.in_ok-push.ensures.items, more, ← is, c.in_ok-copied.ensures) (ap (λ (made : List Rule). made ++ rule_of c.rule-item.result ∷ []) c.loop-rule.invariant)

pub returns : goal.returns
returns g c =
    let past = rw c.deref-rule-items.ensures.value at c.loop-rule-test.false in
    rw (take_all c.loop-rule.rule-index c.args.scope.now.matches.items past) at c.loop-rule.invariant
