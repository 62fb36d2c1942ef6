use Rattle.folder_listing.proofs.Fed.{FedOn}
use Rattle.folder_listing.proofs.feeding.feed_pieces.Given as goal

abbrev pub invariant-loop : goal.invariant-loop
invariant-loop g l = FedOn g.F.Feed.is_after (g.R.CountedRead.remaining l.fn.input) (g.R.CountedRead.remaining l.input) l.fed
