use Rattle.loss_rules.proofs.Matches.{Passed}
use Rattle.loss_rules.proofs.plan.reaches_cover_label.Given as goal

abbrev pub invariant-loop-rule : goal.invariant-loop-rule
invariant-loop-rule g l = Passed l.matches l.reaches l.at.place l.at.scope l.pattern l.rule l.covered
