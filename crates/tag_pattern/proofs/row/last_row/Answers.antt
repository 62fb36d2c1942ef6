use Rattle.std.proofs.Common.{false, [], replicate, arith, length-set, sym}
use Rattle.std.proofs.lemmas.List.{length-map}
use Rattle.tag_pattern.specs.Items.{items_of, item_of}
use Rattle.tag_pattern.proofs.Cells.{empty_answer}
use Rattle.tag_pattern.proofs.RowSteps.{row_end, column_step}
use Rattle.tag_pattern.proofs.row.last_row.Goals as goal

pub loop-place-init : goal.loop-place-init
loop-place-init g c =
    (simp length-set, row_end c.args.relation [] (items_of c.args.others.now) (replicate 33 false) _ _ (sym (length-map c.args.others.now item_of)) (omega arith) (empty_answer c.args.relation))

pub loop-place-preserved : goal.loop-place-preserved
loop-place-preserved g c =
    let held = c.loop-place.invariant in
    (rw length-set held.0, column_step c.args.relation c.args.others.now _ _ _ _ _ (omega arith) (omega arith) (omega (arith, held.0)) c.index-others-place.is c.lent-other.ensures c.end_of_column.ensures held.1)
