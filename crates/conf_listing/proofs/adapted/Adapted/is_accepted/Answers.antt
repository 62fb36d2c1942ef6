use Rattle.std.proofs.Common.{map, sym}
use Rattle.std.specs.Prelude.{string_bytes}
use Rattle.conf_listing.specs.Printed.{entry_accepted}
use Rattle.conf_listing.proofs.Accepting.{all_pass, one_fails, one_more}
use Rattle.conf_listing.proofs.adapted.Adapted.is_accepted.Goals as goal

pub returns-then-not-is_entry_accepted : goal.returns-then-not-is_entry_accepted
returns-then-not-is_entry_accepted g c =
    one_fails (entry_accepted (map string_bytes c.args.accepted.now)) c.args.self.now.entries.items c.loop-entry.entry-index c.entry-item.result (rw c.deref-entry-items.ensures.value at c.loop-entry-test.true) (rw c.deref-entry-items.ensures.value at c.entry-item.is) (sym c.if-not-is_entry_accepted.ensures)

pub loop-entry-preserved : goal.loop-entry-preserved
loop-entry-preserved g c =
    one_more (entry_accepted (map string_bytes c.args.accepted.now)) c.args.self.now.entries.items c.loop-entry.entry-index c.entry-item.result (rw c.deref-entry-items.ensures.value at c.loop-entry-test.true) (rw c.deref-entry-items.ensures.value at c.entry-item.is) (sym c.if-not-is_entry_accepted.ensures) c.loop-entry.invariant

pub returns : goal.returns
returns g c = all_pass (entry_accepted (map string_bytes c.args.accepted.now)) c.args.self.now.entries.items c.loop-entry.entry-index (rw c.deref-entry-items.ensures.value at c.loop-entry-test.false) c.loop-entry.invariant
