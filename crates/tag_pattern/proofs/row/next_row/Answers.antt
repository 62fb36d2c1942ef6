use Rattle.std.proofs.Common.{false, ◌∷◌, replicate, arith, length-set, sym}
use Rattle.std.proofs.lemmas.List.{length-map}
use Rattle.tag_pattern.specs.Items.{items_of, item_of}
use Rattle.tag_pattern.specs.Rows.{lent_item}
use Rattle.tag_pattern.proofs.RowSteps.{row_end, cell_step, at_end}
use Rattle.tag_pattern.proofs.row.next_row.Goals as goal

pub loop-place-init : goal.loop-place-init
loop-place-init g c =
    (simp length-set, λ p under. row_end c.args.relation (lent_item c.args.item ∷ p) (items_of c.args.others.now) (replicate 33 false) _ _ (sym (length-map c.args.others.now item_of)) (omega arith) (c.end_of_row.ensures p (at_end c.args.relation p c.args.others.now c.args.below.now under)))

pub loop-place-preserved : goal.loop-place-preserved
loop-place-preserved g c =
    let held = c.loop-place.invariant in
    (rw length-set held.0, λ p under. cell_step c.args.relation _ p c.args.others.now c.args.below.now _ _ _ _ _ (omega arith) (omega arith) (omega (arith, held.0)) c.index-others-place.is c.lent-other.ensures c.cell.ensures under (held.1 p under))
