use Rattle.stream_listing.proofs.FaultLaws.{stands_for_good}
use Rattle.stream_listing.proofs.laws.stands_for_good.Goals as goal

pub returns : goal.returns
returns c = stands_for_good
