use Rattle.chunk_journal.proofs.Unique.{same_journal}
use Rattle.chunk_journal.proofs.laws.reads_one_way.Goals as goal

pub returns : goal.returns
returns c = same_journal c.prefix_free.ensures.one_front
