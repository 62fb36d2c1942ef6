use Rattle.std.proofs.Common.{length}
use Rattle.folder_counts.proofs.Tallied.{FrontOn}
use Rattle.folder_counts.proofs.events.count_front.Given as goal

abbrev pub invariant-events : goal.invariant-events
invariant-events g l = FrontOn (g.S.Spelling.form) l.fn.before l.bytes l.tally l.rest

abbrev pub decreases-events : goal.decreases-events
decreases-events g l = length l.rest
