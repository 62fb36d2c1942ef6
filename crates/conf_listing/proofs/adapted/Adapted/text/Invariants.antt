use Rattle.std.proofs.Common.{◌≡◌, take}
use Rattle.conf_listing.specs.Printed.{printed_text}
use Rattle.conf_listing.proofs.adapted.Adapted.text.Given as goal

abbrev pub invariant-loop-entry : goal.invariant-loop-entry
invariant-loop-entry g l = l.text.items ≡ printed_text (take l.entry-index l.self.entries.items)
