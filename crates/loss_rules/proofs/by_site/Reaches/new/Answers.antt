use Rattle.std.proofs.Common.{◌≡◌, sym, ap, ◌∙◌, arith}
use Rattle.loss_rules.specs.Labels.{IsReachOf}
use Rattle.loss_rules.proofs.BySite.{before_more, before_none, before_all}
use Rattle.loss_rules.proofs.by_site.Reaches.new.Goals as goal

pub loop-reach-init : goal.loop-reach-init
loop-reach-init g c = λ place scope rule list. before_none (λ reach. IsReachOf place scope rule reach × (reach.patterns.items ≡ list)) c.args.list.now _ (c.new-by_match.ensures ((place, scope), rule) list)

pub loop-reach-preserved : goal.loop-reach-preserved
loop-reach-preserved g c = λ place scope rule list. before_more (λ reach. IsReachOf place scope rule reach × (reach.patterns.items ≡ list)) c.args.list.now c.loop-reach.reach-index c.reach-item.result _ _ _ (omega arith) c.reach-item.is
    (c.loop-reach.invariant place scope rule list) (c.in_ok-add.ensures ((place, scope), rule) list)
    (λ h. ((ap (λ s. s.0.0) h.0, ap (λ s. s.0.1) h.0, ap (λ s. s.1) h.0), sym c.deref.ensures.value ∙ h.1), λ h. (λ i. ((h.0.0 i, h.0.1 i), h.0.2 i), c.deref.ensures.value ∙ h.1))

pub invariant_of-result : goal.invariant_of-result
invariant_of-result g c = λ place scope rule list. before_all (λ reach. IsReachOf place scope rule reach × (reach.patterns.items ≡ list)) c.args.list.now c.loop-reach.reach-index _ (omega arith) (c.loop-reach.invariant place scope rule list)
