use Rattle.disk_files.proofs.Outcomes.{settles}
use Rattle.disk_files.proofs.laws.stop_settles.Goals as goal

pub returns : goal.returns
returns c = settles
