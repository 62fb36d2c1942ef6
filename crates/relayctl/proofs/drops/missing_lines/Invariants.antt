use Rattle.std.proofs.Common.{take}
use Rattle.program_text.specs.Listings.{AreListed}
use Rattle.relayctl.specs.Dropping.{IsMissingLine}
use Rattle.relayctl.proofs.drops.missing_lines.Given as goal

abbrev pub invariant-loop-name : goal.invariant-loop-name
invariant-loop-name g l = AreListed (IsMissingLine l.plan) (take l.name-index l.names) l.lines.items
