use Rattle.std.proofs.Common.{◌≡◌, sym, ap, ◌∙◌, arith}
use Rattle.loss_rules.specs.Labels.{IsLabelOf}
use Rattle.loss_rules.proofs.BySite.{before_more, before_none, before_all}
use Rattle.loss_rules.proofs.by_site.Labels.new.Goals as goal

pub loop-label-init : goal.loop-label-init
loop-label-init g c = λ place scope list. before_none (λ label. IsLabelOf place scope label × (label.patterns.items ≡ list)) c.args.list.now _ (c.new-by_scope.ensures ((place, scope), 0) list)

pub loop-label-preserved : goal.loop-label-preserved
loop-label-preserved g c = λ place scope list. before_more (λ label. IsLabelOf place scope label × (label.patterns.items ≡ list)) c.args.list.now c.loop-label.label-index c.label-item.result _ _ _ (omega arith) c.label-item.is
    (c.loop-label.invariant place scope list) (c.in_ok-add.ensures ((place, scope), 0) list)
    (λ h. ((ap (λ s. s.0.0) h.0, ap (λ s. s.0.1) h.0), sym c.deref.ensures.value ∙ h.1), λ h. (λ i. ((h.0.0 i, h.0.1 i), 0), c.deref.ensures.value ∙ h.1))

pub invariant_of-result : goal.invariant_of-result
invariant_of-result g c = λ place scope list. before_all (λ label. IsLabelOf place scope label × (label.patterns.items ≡ list)) c.args.list.now c.loop-label.label-index _ (omega arith) (c.loop-label.invariant place scope list)
