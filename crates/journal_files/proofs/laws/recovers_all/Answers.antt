use Rattle.journal_files.proofs.Recovery.{recovers}
use Rattle.journal_files.proofs.laws.recovers_all.Goals as goal

pub returns : goal.returns
returns c = recovers
