use Rattle.sink_series.proofs.Items.{item_made}
use Rattle.sink_series.proofs.writing.put_item.Goals as goal

pub returns : goal.returns
returns g c =
    item_made c.args.out.now.items _ _ _ (record { tag = c.args.tag.now; entry = c.args.entry.now }) c.in_ok-put_front.ensures c.split_at.ensures.back c.in_ok-extend_from_slice.ensures.items
