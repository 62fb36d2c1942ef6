use Rattle.chunk_journal.proofs.Fed.{ends_last}
use Rattle.chunk_journal.proofs.laws.ends_with_entries.Goals as goal

pub returns : goal.returns
returns c = ends_last
