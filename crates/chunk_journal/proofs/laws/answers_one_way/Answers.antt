use Rattle.chunk_journal.proofs.Answered.{one_answer}
use Rattle.chunk_journal.proofs.laws.answers_one_way.Goals as goal

pub returns : goal.returns
returns c = one_answer c.prefix_free.ensures.one_front
