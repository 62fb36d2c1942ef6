use Rattle.std.proofs.Common.{map, take}
use Rattle.program_text.specs.Listings.{AreListed}
use Rattle.relayctl.specs.Dropping.{IsMisspeltLine}
use Rattle.relayctl.proofs.drops.misspelt_lines.Given as goal

abbrev pub invariant-loop-word : goal.invariant-loop-word
invariant-loop-word g l = AreListed IsMisspeltLine (map (λ word. word.now) (take l.word-index l.words)) l.lines.items
