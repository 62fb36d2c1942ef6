use Rattle.std.proofs.Common.{◌++◌, List, sym, ap, ◌∙◌}
use Rattle.std.specs.List.{flat_map}
use Rattle.std.proofs.lemmas.List.{take_all}
use Rattle.relay_conf.specs.declared.output.Output.{Output}
use Rattle.relay_places.specs.Outputs.{of_scope}
use Rattle.relay_places.proofs.Growing.{flat_map_step}
use Rattle.relay_places.proofs.outputs.outputs_of.Goals as goal

pub loop-scope-preserved : goal.loop-scope-preserved
loop-scope-preserved g c =
    let scope = c.scope-item.result in
    c.in_ok-put_scope.ensures
    ∙ ap (λ (z : List (Output g.row.A.Denot)). z ++ of_scope scope) c.loop-scope.invariant
    ∙ sym (flat_map_step of_scope c.deref-scope-items.result.now c.loop-scope.scope-index scope c.loop-scope-test.true c.scope-item.is)

pub returns : goal.returns
returns g c =
    let all = take_all c.loop-scope.scope-index c.deref-scope-items.result.now c.loop-scope-test.false in
    c.loop-scope.invariant ∙ ap (flat_map of_scope) (all ∙ c.deref-scope-items.ensures.value)
