use Rattle.std.proofs.Common.{◌++◌, List, map, ap, ◌∙◌}
use Rattle.std.specs.Borrow.{Bor}
use Rattle.std.specs.List.{flat_map}
use Rattle.std.proofs.lemmas.List.{take_all}
use Rattle.relay_conf.specs.declared.output.Output.{Output}
use Rattle.relay_places.specs.Outputs.{of_rule}
use Rattle.relay_places.proofs.Growing.{grown, flat_map_step}
use Rattle.relay_places.proofs.outputs.put_scope.Goals as goal

pub loop-rule-preserved : goal.loop-rule-preserved
loop-rule-preserved g c =
    let rule = c.rule-item.result in
    grown _ _ _ _ _ _ c.loop-rule.invariant c.in_ok-put_rule.ensures
    (flat_map_step of_rule c.deref-rule-items.result.now c.loop-rule.rule-index rule c.loop-rule-test.true c.rule-item.is)

pub returns : goal.returns
returns g c =
    let all = take_all c.loop-rule.rule-index c.deref-rule-items.result.now c.loop-rule-test.false in
    let was = map (λ (found : Bor (Output g.row.A.Denot)). found.now) c.args.all.now.items in
    c.loop-rule.invariant ∙ ap (λ (rules : List _). was ++ flat_map of_rule rules) (all ∙ c.deref-rule-items.ensures.value)
