use Rattle.disk_files.proofs.Outcomes.{append_inside, create_inside, sync_inside, synced_inside, remove_inside}
use Rattle.disk_files.proofs.laws.inside_calls.Goals as goal

pub returns : goal.returns
returns c = record { append = append_inside; create = create_inside; sync = sync_inside; synced = synced_inside; remove = remove_inside }
