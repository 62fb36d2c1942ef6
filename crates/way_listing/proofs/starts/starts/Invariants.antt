use Rattle.std.proofs.Common.{[], map, take}
use Rattle.std.specs.Prelude.{string_bytes}
use Rattle.way_listing.specs.Sendings.{Adds, Sends, Through}
use Rattle.way_listing.proofs.starts.starts.Given as goal

abbrev pub invariant-loop-number : goal.invariant-loop-number
invariant-loop-number g l = Adds (Through (Sends l.net (map string_bytes l.tags)) (take l.number l.net.clients)) [] l.found.items
