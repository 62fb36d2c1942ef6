use Rattle.disk_files.specs.Stopped.{cut_to}
use Rattle.disk_files.proofs.Table.{changed}
use Rattle.disk_files.proofs.memory_file.cut_at.Goals as goal

pub returns : goal.returns
returns g c =
    changed c.args.files.now.items c.args.at (cut_to c.args.n) c.index_mut.result.now c.cut.new.self c.requires c.index_mut.ensures.value c.cut.ensures.name c.cut.ensures.state
