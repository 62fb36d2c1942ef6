use Rattle.std.proofs.Common.{Option, Some, refl, rules, subst}
use Rattle.ack_receipt.specs.Evidences.{Shows}
use Rattle.tcp_courier.specs.Talks.{Hears}
use Rattle.tcp_courier.proofs.Going.{AwaitsOn-none, AwaitsOn-heard, AwaitsOn-seen}
use Rattle.tcp_courier.proofs.exchange.acknowledged.Goals as goal

pub loop-init : goal.loop-init
loop-init g c = (refl, λ id phase. AwaitsOn-none (g.W.Wire.traffic c.args.line.now.wire) c.args.session.now (Some id) phase)

pub returns-in-Some-clause-names : goal.returns-in-Some-clause-names
returns-in-Some-clause-names g c id phase =
    let traffic = g.W.Wire.traffic in
    let heard = c.in_ok-evidence.ensures.came in
    (AwaitsOn-seen (traffic c.args.line.now.wire) (traffic c.loop.line.wire) (traffic c.hear.new.line.wire) c.args.session.now c.loop.session c.hear.new.session id heard.0 c.in-Some.evidence
    (c.loop.invariant.1 id phase) heard.1
    (subst (λ (h : Option Shows). Hears c.loop.session heard.0 h c.hear.new.session) c.in-Some.is heard.2)).0

pub returns-in-Some-clause-came : goal.returns-in-Some-clause-came
returns-in-Some-clause-came g c id phase =
    let traffic = g.W.Wire.traffic in
    let heard = c.in_ok-evidence.ensures.came in
    let all =
    AwaitsOn-seen (traffic c.args.line.now.wire) (traffic c.loop.line.wire) (traffic c.hear.new.line.wire) c.args.session.now c.loop.session c.hear.new.session id heard.0 c.in-Some.evidence
    (c.loop.invariant.1 id phase) heard.1
    (subst (λ (h : Option Shows). Hears c.loop.session heard.0 h c.hear.new.session) c.in-Some.is heard.2) in
    (all.1, all.2, all.3)

pub loop-preserved : goal.loop-preserved
loop-preserved g c =
    let traffic = g.W.Wire.traffic in
    let heard = c.in_ok-evidence.ensures.came in (
      search rules,
      λ id phase. AwaitsOn-heard (traffic c.args.line.now.wire) (traffic c.loop.line.wire) (traffic c.hear.new.line.wire) c.args.session.now c.loop.session c.hear.new.session (Some id) heard.0
          (c.loop.invariant.1 id phase) heard.1
          (subst (λ (h : Option Shows). Hears c.loop.session heard.0 h c.hear.new.session) c.in_default.is heard.2),
    )
