use Rattle.std.proofs.Common.{◌≡◌}
use Rattle.loss_rules.proofs.by_site.PatternsBySite.note.Given as goal

abbrev pub invariant-loop-pattern : goal.invariant-loop-pattern
invariant-loop-pattern g l = l.self.lists ≡ l.fn.self.lists
