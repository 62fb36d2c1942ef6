use Rattle.loss_rules.specs.Lines.{Adds, site_of}
use Rattle.loss_rules.proofs.Lines.{KeptBelow, BrokenBelow}
use Rattle.loss_rules.proofs.requirement.add_scope_lines.Given as goal

abbrev pub invariant-loop-rule : goal.invariant-loop-rule
invariant-loop-rule g l = Adds (KeptBelow (λ rule found. g.R.Requirement.keeps l.asked (site_of l.place l.scope rule) found) l.matches l.rule)
    (BrokenBelow (λ rule found line. g.R.Requirement.breaks l.asked (site_of l.place l.scope rule) found line) l.matches l.rule) l.fn.lines.items l.lines.items
