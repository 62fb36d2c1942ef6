use Rattle.loss_rules.proofs.Building.{AreBelow}
use Rattle.loss_rules.proofs.graph.ScopeRelabels.new.Given as goal

abbrev pub invariant-loop-rule : goal.invariant-loop-rule
invariant-loop-rule g l = AreBelow l.net l.reaches l.place l.scope l.rule l.found
