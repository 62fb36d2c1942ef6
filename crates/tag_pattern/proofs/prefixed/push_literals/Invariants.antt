use Rattle.std.proofs.Common.{◌≡◌, ◌++◌, map}
use Rattle.std.specs.Option.{option_copied}
use Rattle.tag_pattern.specs.Cuts.{pieces_behind}
use Rattle.tag_pattern.specs.Items.{items_of}
use Rattle.tag_pattern.specs.Parts.{dot, parts_of}
use Rattle.tag_pattern.specs.declared.item.PatternItem.TheVariants.{Literal}
use Rattle.tag_pattern.proofs.CutSteps.{left}
use Rattle.tag_pattern.proofs.prefixed.push_literals.Given as goal

abbrev pub invariant-loop-rest : goal.invariant-loop-rest
invariant-loop-rest g l =
    items_of l.items.items ++ map Literal (pieces_behind dot (option_copied l.rest)) ≡ items_of l.fn.items.items ++ map Literal (parts_of l.fn.text)

abbrev pub decreases-loop-rest : goal.decreases-loop-rest
decreases-loop-rest g l = left (option_copied l.rest)
