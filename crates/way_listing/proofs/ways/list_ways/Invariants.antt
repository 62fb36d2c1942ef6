use Rattle.std.proofs.Common.{map, take}
use Rattle.std.specs.Prelude.{string_bytes}
use Rattle.program_text.specs.Listings.{AreListed}
use Rattle.way_listing.specs.Ways.{AreWaysFrom}
use Rattle.way_listing.proofs.ways.list_ways.Given as goal

abbrev pub invariant-loop-source : goal.invariant-loop-source
invariant-loop-source g l = AreListed (AreWaysFrom l.relay (map string_bytes l.tags)) (take l.source-index l.relay.sources.items) l.lines.items
