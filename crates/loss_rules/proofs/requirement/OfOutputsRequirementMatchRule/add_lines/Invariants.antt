use Rattle.loss_rules.specs.Lines.{Adds}
use Rattle.loss_rules.proofs.Lines.{KeptBelow, BrokenBelow}
use Rattle.loss_rules.proofs.requirement.OfOutputsRequirementMatchRule.add_lines.Given as goal

abbrev pub invariant-loop-output : goal.invariant-loop-output
invariant-loop-output g l = Adds (KeptBelow (λ output other. g.R.Requirement.keeps l.self.0 (record l.at { output = output }) other) l.other-items l.output)
    (BrokenBelow (λ output other line. g.R.Requirement.breaks l.self.0 (record l.at { output = output }) other line) l.other-items l.output) l.fn.lines.items l.lines.items
