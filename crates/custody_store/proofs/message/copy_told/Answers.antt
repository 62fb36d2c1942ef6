use Rattle.std.proofs.Common.{refl, ◌∙◌}
use Rattle.std.proofs.lemmas.List.{take_all}
use Rattle.custody_store.proofs.BookChanges.{told_more}
use Rattle.custody_store.proofs.message.copy_told.Goals as goal

pub loop-entry-preserved : goal.loop-entry-preserved
loop-entry-preserved g c = rw c.in_ok-push.ensures.items
    (told_more c.args.client c.args.tag.now c.args.entries.now c.loop-entry.entry-index c.entry-item.result c.loop-entry.events.items _ c.loop-entry-test.true c.entry-item.is refl c.in_ok-from_slice.ensures.items (c.in_ok-from_slice-2.ensures.items ∙ c.as_slice.ensures.value) c.loop-entry.invariant)

pub returns : goal.returns
returns g c = rw (take_all c.loop-entry.entry-index c.args.entries.now c.loop-entry-test.false) at c.loop-entry.invariant
