use Rattle.stream_listing.proofs.Listings.{one_listing}
use Rattle.stream_listing.proofs.laws.one_listing.Goals as goal

pub returns : goal.returns
returns c = one_listing
