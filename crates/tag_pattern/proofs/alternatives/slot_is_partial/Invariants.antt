use Rattle.std.proofs.Common.{◌≡◌, map}
use Rattle.std.specs.List.{list_any}
use Rattle.std.specs.Option.{option_copied}
use Rattle.tag_pattern.specs.Cuts.{choices_in, is_partial, pieces_behind, comma}
use Rattle.tag_pattern.specs.Parts.{parts_of}
use Rattle.tag_pattern.proofs.CutSteps.{left}
use Rattle.tag_pattern.proofs.alternatives.slot_is_partial.Given as goal

abbrev pub invariant-loop-rest : goal.invariant-loop-rest
invariant-loop-rest l =
    list_any (λ parts. list_any is_partial parts) (map parts_of (pieces_behind comma (option_copied l.rest)))
    ≡ list_any (λ parts. list_any is_partial parts) (choices_in l.fn.body)

abbrev pub decreases-loop-rest : goal.decreases-loop-rest
decreases-loop-rest l = left (option_copied l.rest)
