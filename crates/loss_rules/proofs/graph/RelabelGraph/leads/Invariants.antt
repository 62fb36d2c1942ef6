use Rattle.std.proofs.Common.{◌+◌, length}
use Rattle.loss_rules.proofs.Visits.{IsVisit}
use Rattle.loss_rules.proofs.Weights.{weight}
use Rattle.loss_rules.proofs.graph.RelabelGraph.leads.Given as goal

abbrev pub invariant-loop-scope : goal.invariant-loop-scope
invariant-loop-scope g l = IsVisit l.self l.start l.visit.marks.items l.visit.ahead.items

abbrev pub decreases-loop-scope : goal.decreases-loop-scope
decreases-loop-scope g l = length l.visit.ahead.items + weight l.visit.marks.items l.self
