use Rattle.std.proofs.Common.{◌++◌, List, ℕ, ap, ◌∙◌}
use Rattle.std.proofs.lemmas.List.{take_all}
use Rattle.output_state.specs.Rows.{row_text}
use Rattle.relay_places.specs.Rows.{rows_text}
use Rattle.relay_places.proofs.Writing.{text_more}
use Rattle.relay_places.proofs.rows.OutputRows.text.Goals as goal

pub loop-row-preserved : goal.loop-row-preserved
loop-row-preserved g c =
    text_more c.deref-row-items.result.now c.loop-row.row-index c.row-item.result c.loop-row.text.items c.put_state.new.text.items
    c.loop-row-test.true c.row-item.is c.loop-row.invariant (c.in_ok-put_state.ensures ∙ ap (λ (z : List ℕ). c.loop-row.text.items ++ z) (ap row_text c.state.ensures))

pub returns : goal.returns
returns g c =
    let rows = take_all c.loop-row.row-index c.deref-row-items.result.now c.loop-row-test.false in
    c.loop-row.invariant ∙ ap rows_text (rows ∙ c.deref-row-items.ensures.value ∙ c.self.view_is)
