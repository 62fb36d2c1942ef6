use Rattle.std.proofs.Common.{length}
use Rattle.recent_lines.proofs.Kept.{KeptOn}
use Rattle.recent_lines.proofs.recent.RecentLines.keep.Given as goal

abbrev pub invariant-lines : goal.invariant-lines
invariant-lines g l = KeptOn l.fn.self l.text l.rest l.kept.items l.self

abbrev pub decreases-lines : goal.decreases-lines
decreases-lines g l = length l.rest
