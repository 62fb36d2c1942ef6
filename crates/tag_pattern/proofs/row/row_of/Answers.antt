use Rattle.std.proofs.Common.{◌≡◌, drop, arith}
use Rattle.tag_pattern.specs.Items.{items_of}
use Rattle.tag_pattern.proofs.RowSteps.{item_more}
use Rattle.tag_pattern.proofs.row.row_of.Goals as goal

pub loop-place-preserved : goal.loop-place-preserved
loop-place-preserved g c =
    let items = c.args.items.now in
    let place = c.loop-place.place in
    let more = item_more items place _ (omega arith) (omega arith) c.index-items-place.is in
    rw (more, ← c.lent.ensures) (c.next_row-row.ensures (drop place (items_of items)) c.loop-place.invariant)

pub returns : goal.returns
returns g c =
    let first : c.loop-place.place ≡ 0 = omega arith in
    rw first at c.loop-place.invariant
