use Rattle.std.proofs.Common.{◌≡◌, map, max}
use Rattle.std.specs.Option.{option_copied}
use Rattle.tag_pattern.specs.Cuts.{choices_in, most_parts, pieces_behind, comma}
use Rattle.tag_pattern.specs.Parts.{parts_of}
use Rattle.tag_pattern.proofs.CutSteps.{left}
use Rattle.tag_pattern.proofs.alternatives.most_parts.Given as goal

abbrev pub invariant-loop-rest : goal.invariant-loop-rest
invariant-loop-rest l =
    max l.most (most_parts (map parts_of (pieces_behind comma (option_copied l.rest)))) ≡ most_parts (choices_in l.fn.body)

abbrev pub decreases-loop-rest : goal.decreases-loop-rest
decreases-loop-rest l = left (option_copied l.rest)
