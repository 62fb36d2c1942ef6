use Rattle.numbered_files.proofs.Counted.{differ}
use Rattle.numbered_files.proofs.laws.names_differ.Goals as goal

pub returns : goal.returns
returns c = differ
