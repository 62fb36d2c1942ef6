use Rattle.loss_rules.specs.Lines.{Adds}
use Rattle.loss_rules.proofs.Lines.{KeptBelow, BrokenBelow}
use Rattle.loss_rules.proofs.requirement.OfServersRequirementOutput.add_lines.Given as goal

abbrev pub invariant-loop-server : goal.invariant-loop-server
invariant-loop-server g l = Adds (KeptBelow (λ number server. g.R.Requirement.keeps l.self.0 l.at server) l.server-items l.server-index)
    (BrokenBelow (λ number server line. g.R.Requirement.breaks l.self.0 l.at server line) l.server-items l.server-index) l.fn.lines.items l.lines.items
