use Rattle.std.proofs.Common.{◌≡◌, drop, map}
use Rattle.std.specs.Prelude.{string_bytes}
use Rattle.conf_listing.specs.Printed.{all_accepted}
use Rattle.conf_listing.proofs.adapted.Adapted.is_accepted.Given as goal

abbrev pub invariant-loop-entry : goal.invariant-loop-entry
invariant-loop-entry g l = all_accepted (map string_bytes l.accepted) (drop l.entry-index l.self.entries.items) ≡ all_accepted (map string_bytes l.accepted) l.self.entries.items
