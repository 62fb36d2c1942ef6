use Rattle.disk_files.proofs.Outcomes.{sync_keeps_all}
use Rattle.disk_files.proofs.laws.sync_keeps.Goals as goal

pub returns : goal.returns
returns c = sync_keeps_all
