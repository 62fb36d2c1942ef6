use Rattle.std.proofs.Common.{map, take}
use Rattle.std.specs.Prelude.{string_bytes}
use Rattle.program_text.specs.Listings.{AreListed}
use Rattle.way_listing.specs.Lines.{IsUnsentLine}
use Rattle.way_listing.proofs.listing.unsent_lines.Given as goal

abbrev pub invariant-loop-tag : goal.invariant-loop-tag
invariant-loop-tag g l = AreListed (IsUnsentLine l.begun) (map string_bytes (take l.tag-index l.tags)) l.lines.items
