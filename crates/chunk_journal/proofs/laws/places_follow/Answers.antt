use Rattle.chunk_journal.proofs.Placing.{places_follow}
use Rattle.chunk_journal.proofs.laws.places_follow.Goals as goal

pub returns : goal.returns
returns c = places_follow
