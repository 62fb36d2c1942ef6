use Rattle.std.proofs.Common.{take}
use Rattle.program_text.specs.Listings.{AreListed}
use Rattle.way_listing.specs.Lines.{IsSentLine}
use Rattle.way_listing.proofs.listing.sent_lines.Given as goal

abbrev pub invariant-loop-one : goal.invariant-loop-one
invariant-loop-one g l = AreListed (IsSentLine l.plan) (take l.one-index l.sent) l.lines.items
