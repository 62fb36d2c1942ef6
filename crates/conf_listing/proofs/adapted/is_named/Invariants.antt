use Rattle.std.proofs.Common.{◌≡◌, drop, map}
use Rattle.std.specs.Prelude.{string_bytes}
use Rattle.conf_listing.specs.Printed.{is_among}
use Rattle.conf_listing.proofs.adapted.is_named.Given as goal

abbrev pub invariant-loop-one : goal.invariant-loop-one
invariant-loop-one g l = is_among (map string_bytes (drop l.one-index l.names)) l.name ≡ is_among (map string_bytes l.names) l.name
