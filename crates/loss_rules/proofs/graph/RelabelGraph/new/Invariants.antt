use Rattle.loss_rules.proofs.Building.{IsBuilt}
use Rattle.loss_rules.proofs.graph.RelabelGraph.new.Given as goal

abbrev pub invariant-loop-scope : goal.invariant-loop-scope
invariant-loop-scope g l = IsBuilt l.net l.reaches l.place l.scope l.scopes.items
