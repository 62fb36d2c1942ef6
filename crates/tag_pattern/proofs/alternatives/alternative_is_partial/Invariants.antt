use Rattle.std.proofs.Common.{◌≡◌}
use Rattle.std.specs.List.{list_any}
use Rattle.std.specs.Option.{option_copied}
use Rattle.tag_pattern.specs.Cuts.{is_partial, pieces_behind}
use Rattle.tag_pattern.specs.Parts.{dot, parts_of}
use Rattle.tag_pattern.proofs.CutSteps.{left}
use Rattle.tag_pattern.proofs.alternatives.alternative_is_partial.Given as goal

abbrev pub invariant-loop-rest : goal.invariant-loop-rest
invariant-loop-rest l =
    list_any is_partial (pieces_behind dot (option_copied l.rest)) ≡ list_any is_partial (parts_of l.fn.alternative)

abbrev pub decreases-loop-rest : goal.decreases-loop-rest
decreases-loop-rest l = left (option_copied l.rest)
