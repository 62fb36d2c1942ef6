use Rattle.std.proofs.Common.{◌≡◌, List, take}
use Rattle.tag_pattern.specs.Grammar.{Slot, IsPatternText, plain_patterns}
use Rattle.tag_pattern.proofs.pattern.expansions.Given as goal

abbrev pub invariant-loop-number : goal.invariant-loop-number
invariant-loop-number g l = (slots : List Slot) → IsPatternText slots l.text → l.read.items ≡ take l.number (plain_patterns slots)
