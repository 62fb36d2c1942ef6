use Rattle.std.proofs.Common.{refl}
use Rattle.std.proofs.lemmas.Bool.{false≢true}
use Rattle.route_graph.proofs.Takers.{passed-none, passed-more, passed-taker, passed-all}
use Rattle.route_graph.proofs.table.RouteScope.taker.Goals as goal

pub loop-rule-init : goal.loop-rule-init
loop-rule-init g c = passed-none c.deref-rule-items.result.now c.args.tag.now

pub loop-rule-preserved : goal.loop-rule-preserved
loop-rule-preserved g c =
    passed-more c.deref-rule-items.result.now c.args.tag.now c.loop-rule.rule-index c.rule-item.result c.loop-rule-test.true c.rule-item.is (λ has. false≢true (c.if-takes.ensures.1 has)) c.loop-rule.invariant

pub returns-then-takes : goal.returns-then-takes
returns-then-takes g c =
    let taken = passed-taker c.deref-rule-items.result.now c.args.tag.now c.loop-rule.rule-index c.rule-item.result c.loop-rule-test.true c.rule-item.is (c.if-takes.ensures.0 refl) c.loop-rule.invariant in
    rw (← c.self.view_is, ← c.deref-rule-items.ensures.value) taken

pub returns : goal.returns
returns g c =
    rw (← c.self.view_is, ← c.deref-rule-items.ensures.value) (passed-all c.deref-rule-items.result.now c.args.tag.now c.loop-rule.rule-index c.loop-rule-test.false c.loop-rule.invariant)
