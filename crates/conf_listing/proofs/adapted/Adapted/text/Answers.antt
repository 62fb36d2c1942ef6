use Rattle.std.proofs.lemmas.List.{take_all}
use Rattle.conf_listing.proofs.Drafting.{text_more}
use Rattle.conf_listing.proofs.adapted.Adapted.text.Goals as goal

pub loop-entry-preserved : goal.loop-entry-preserved
loop-entry-preserved g c =
    text_more c.args.self.now.entries.items c.loop-entry.entry-index c.entry-item.result c.loop-entry.text.items c.text_of.result.now c.extend_from_slice.new.self.items
    (rw c.deref-entry-items.ensures.value at c.loop-entry-test.true) (rw c.deref-entry-items.ensures.value at c.entry-item.is) c.text_of.ensures c.loop-entry.invariant c.in_ok-extend_from_slice.ensures.items

pub returns : goal.returns
returns g c = rw (take_all c.loop-entry.entry-index c.args.self.now.entries.items (rw c.deref-entry-items.ensures.value at c.loop-entry-test.false)) at c.loop-entry.invariant
