use Rattle.std.proofs.Common.{◌≡◌, drop, map}
use Rattle.std.specs.Prelude.{string_bytes}
use Rattle.std.specs.List.{list_all}
use Rattle.conf_listing.specs.Printed.{is_among}
use Rattle.conf_listing.proofs.adapted.are_named.Given as goal

abbrev pub invariant-loop-name : goal.invariant-loop-name
invariant-loop-name g l = list_all (λ name. is_among (map string_bytes l.names) name.items) (drop l.name-index l.wanted) ≡ list_all (λ name. is_among (map string_bytes l.names) name.items) l.wanted
