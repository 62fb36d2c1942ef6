use Rattle.std.proofs.Common.{List}
use Rattle.std.specs.Option.{option_copied}
use Rattle.tag_pattern.specs.Cuts.{SpellsRest}
use Rattle.tag_pattern.specs.Grammar.{Slot, IsPatternText}
use Rattle.tag_pattern.specs.Survey.{IsSurveyed, IsWithin}
use Rattle.tag_pattern.proofs.CutSteps.{left}
use Rattle.tag_pattern.proofs.survey.take_survey.Given as goal

abbrev pub invariant-loop-rest : goal.invariant-loop-rest
invariant-loop-rest l = record {
  only : (slots : List Slot) → IsPatternText slots l.fn.text → (behind : List Slot) × SpellsRest behind (option_copied l.rest);
  within : IsWithin l.size;
  each : (behind : List Slot) → SpellsRest behind (option_copied l.rest) → (slots : List Slot) × IsPatternText slots l.fn.text × IsSurveyed slots behind l.has_partial l.size;
}

abbrev pub decreases-loop-rest : goal.decreases-loop-rest
decreases-loop-rest l = left (option_copied l.rest)
