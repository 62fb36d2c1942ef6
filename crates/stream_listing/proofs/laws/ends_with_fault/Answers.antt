use Rattle.stream_listing.proofs.RestFaults.{ends_with_fault}
use Rattle.stream_listing.proofs.laws.ends_with_fault.Goals as goal

pub returns : goal.returns
returns c = ends_with_fault
