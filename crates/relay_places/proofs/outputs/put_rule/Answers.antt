use Rattle.std.proofs.Common.{◌++◌, List, filter, map, sym, ap, ◌∙◌}
use Rattle.std.specs.Borrow.{Bor}
use Rattle.std.proofs.lemmas.List.{map_push, take_all}
use Rattle.relay_conf.specs.declared.output.Output.{Output}
use Rattle.relay_places.specs.Outputs.{has_buffer}
use Rattle.relay_places.proofs.Growing.{grown, filter_kept, filter_left}
use Rattle.relay_places.proofs.outputs.put_rule.Goals as goal
use Rattle.relay_places.proofs.outputs.put_rule.Goals.{then-has_buffer+in_ok-push, else-has_buffer}

pub loop-output-preserved : goal.loop-output-preserved
loop-output-preserved g c =
    let items = c.deref-output-items.result.now in
    let at = c.loop-output.output-index in
    let output = c.output-item.result in
    elim c.if-has_buffer.branch [
      | then-has_buffer+in_ok-push w ↦ rw (w.all-is, w.in_ok-push.ensures.items)
          (grown _ _ _ _ _ _ c.loop-output.invariant (map_push (λ (found : Bor (Output g.row.A.Denot)). found.now) c.loop-output.all.items _)
          (filter_kept has_buffer items at output c.loop-output-test.true c.output-item.is (sym c.has_buffer.ensures ∙ w.if-has_buffer.true)))
      | else-has_buffer w ↦ rw (w.all-is, filter_left has_buffer items at output c.loop-output-test.true c.output-item.is (sym c.has_buffer.ensures ∙ w.if-has_buffer.false))
          c.loop-output.invariant
    ]

pub returns : goal.returns
returns g c =
    let all = take_all c.loop-output.output-index c.deref-output-items.result.now c.loop-output-test.false in
    let was = map (λ (found : Bor (Output g.row.A.Denot)). found.now) c.args.all.now.items in
    c.loop-output.invariant ∙ ap (λ (outputs : List (Output g.row.A.Denot)). was ++ filter has_buffer outputs) (all ∙ c.deref-output-items.ensures.value)
