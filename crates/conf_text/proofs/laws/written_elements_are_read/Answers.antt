use Rattle.conf_text.proofs.Lines.{written_read}
use Rattle.conf_text.proofs.laws.written_elements_are_read.Goals as goal

pub returns : goal.returns
returns c = written_read
