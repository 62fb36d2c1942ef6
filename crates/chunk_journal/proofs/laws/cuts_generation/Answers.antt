use Rattle.chunk_journal.proofs.Answered.{cuts_before, cuts_behind}
use Rattle.chunk_journal.proofs.laws.cuts_generation.Goals as goal

pub returns-clause-before : goal.returns-clause-before
returns-clause-before c = cuts_before

pub returns-clause-behind : goal.returns-clause-behind
returns-clause-behind c = cuts_behind
