use Rattle.std.proofs.Common.{List}
use Rattle.std.specs.Option.{option_copied}
use Rattle.tag_pattern.specs.Cuts.{SpellsRest}
use Rattle.tag_pattern.specs.Grammar.{Slot, IsPatternText}
use Rattle.tag_pattern.specs.Items.{items_of}
use Rattle.tag_pattern.proofs.CutSteps.{left}
use Rattle.tag_pattern.proofs.Expansions.{IsLeft}
use Rattle.tag_pattern.proofs.expansion.expansion.Given as goal

abbrev pub invariant-loop-rest : goal.invariant-loop-rest
invariant-loop-rest g l =
    (slots : List Slot) → IsPatternText slots l.fn.text → (behind : List Slot) × SpellsRest behind (option_copied l.rest) × IsLeft slots behind l.fn.number l.number l.left (items_of l.items.items)

abbrev pub decreases-loop-rest : goal.decreases-loop-rest
decreases-loop-rest g l = left (option_copied l.rest)
