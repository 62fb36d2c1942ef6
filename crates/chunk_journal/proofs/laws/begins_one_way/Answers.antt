use Rattle.chunk_journal.proofs.Unique.{same_start}
use Rattle.chunk_journal.proofs.laws.begins_one_way.Goals as goal

pub returns : goal.returns
returns c = same_start c.prefix_free.ensures.one_front
