use Rattle.std.proofs.Common.{◌≡◌, ◌+◌, sym, subst, ◌∙◌, arith}
use Rattle.loss_rules.proofs.Building.{IsBuilt, built-none, built-more, built-all}
use Rattle.loss_rules.proofs.graph.RelabelGraph.new.Goals as goal

pub loop-scope-init : goal.loop-scope-init
loop-scope-init g c = subst (IsBuilt c.args.net.now c.args.reaches.now c.args.place 0) (sym c.new-scopes.ensures.items) (built-none c.args.net.now c.args.reaches.now c.args.place)

pub loop-scope-preserved : goal.loop-scope-preserved
loop-scope-preserved g c =
    subst (IsBuilt c.args.net.now c.args.reaches.now c.args.place (c.loop-scope.scope + 1)) (sym c.in_ok-push.ensures.items)
    (built-more c.args.net.now c.args.reaches.now c.args.place c.loop-scope.scope c.loop-scope.scopes.items c.in_ok-new.field-0 c.in_ok-new.ensures c.loop-scope.invariant)

pub returns : goal.returns
returns g c =
    let all : c.loop-scope.scope ≡ c.scope_count-scope-end.result = omega arith in
    built-all c.args.net.now c.args.reaches.now c.args.place c.loop-scope.scope c.loop-scope.scopes.items (all ∙ c.scope_count-scope-end.ensures) c.loop-scope.invariant
