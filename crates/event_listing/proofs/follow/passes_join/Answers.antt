use Rattle.event_listing.proofs.Passes.{passes_join}
use Rattle.event_listing.proofs.follow.passes_join.Goals as goal

pub returns : goal.returns
returns c = passes_join
