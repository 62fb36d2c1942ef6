use Rattle.std.proofs.Common.{take}
use Rattle.folder_listing.proofs.Fed.{fed_damaged}
use Rattle.folder_listing.proofs.feeding.feed_pieces.Goals as goal

pub returns-in-Err-feed-clause-damaged : goal.returns-in-Err-feed-clause-damaged
returns-in-Err-feed-clause-damaged g c = λ e.
    let input = g.R.CountedRead.remaining in
    fed_damaged g.F.Feed.is_after g.F.Feed.is_damaged (input c.args.input.now) (input c.loop.input) (input c.read.new.self) c.loop.fed (take c.in-Ok.n c.read.new.piece) c.loop.invariant c.in-Ok.ensures.bytes.0
    (λ seen more on. c.in-Err-feed.ensures.damaged seen more on e)
