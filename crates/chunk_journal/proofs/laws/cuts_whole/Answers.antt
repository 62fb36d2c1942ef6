use Rattle.chunk_journal.proofs.Cuts.{cut_whole, within_rises, within_all}
use Rattle.chunk_journal.proofs.laws.cuts_whole.Goals as goal

pub returns-clause-cuts : goal.returns-clause-cuts
returns-clause-cuts c = cut_whole

pub returns-clause-never_unreads : goal.returns-clause-never_unreads
returns-clause-never_unreads c = within_rises

pub returns-clause-all : goal.returns-clause-all
returns-clause-all c = within_all
