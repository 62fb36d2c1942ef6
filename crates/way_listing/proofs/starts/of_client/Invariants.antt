use Rattle.std.proofs.Common.{map, take}
use Rattle.std.specs.Prelude.{string_bytes}
use Rattle.way_listing.specs.Sendings.{Adds, IsSentUnder, Through}
use Rattle.way_listing.proofs.starts.of_client.Given as goal

abbrev pub invariant-loop-tag : goal.invariant-loop-tag
invariant-loop-tag g l = Adds (Through (IsSentUnder l.client.patterns.items (record { host = l.host; port = l.client.port })) (map string_bytes (take l.tag-index l.tags))) l.fn.found.items l.found.items
