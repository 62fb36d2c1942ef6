use Rattle.conf_text.proofs.Written.{settings_read, openings_read, ends_read}
use Rattle.conf_text.proofs.laws.lines_are_read.Goals as goal

pub returns-clause-settings : goal.returns-clause-settings
returns-clause-settings c = settings_read

pub returns-clause-openings : goal.returns-clause-openings
returns-clause-openings c = openings_read

pub returns-clause-ends : goal.returns-clause-ends
returns-clause-ends c = ends_read
