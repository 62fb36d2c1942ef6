use Rattle.disk_files.proofs.Changed.{removed_now}
use Rattle.disk_files.proofs.memory.MemoryDirDir.was_removed.Goals as goal

pub returns : goal.returns
returns g c = λ honest. removed_now c.args.self.now.files.items c.args.self.now.past c.args.name.now c.was_removed_in.result (c.was_removed_in.ensures honest.0)
