use Rattle.std.proofs.Common.{length}
use Rattle.stream_listing.proofs.ArrivalSteps.{Listed}
use Rattle.stream_listing.proofs.decode.list_arrivals.Given as goal

abbrev pub invariant-loop-message : goal.invariant-loop-message
invariant-loop-message g l = Listed l.fn.feed.held l.feed.held l.fn.lines.items l.lines.items

abbrev pub decreases-loop-message : goal.decreases-loop-message
decreases-loop-message g l = length l.feed.held
