use Rattle.journal_files.proofs.Strays.{kept_no_stray, left_no_stray, no_gap_of}
use Rattle.journal_files.proofs.laws.has_no_stray.Goals as goal

pub returns-clause-kept : goal.returns-clause-kept
returns-clause-kept c = kept_no_stray

pub returns-clause-left : goal.returns-clause-left
returns-clause-left c = left_no_stray

pub returns-clause-gap : goal.returns-clause-gap
returns-clause-gap c = no_gap_of
