use Rattle.disk_files.specs.Disk.{unlinked}
use Rattle.disk_files.proofs.Table.{changed, stays_open}
use Rattle.disk_files.proofs.memory_file.unlink_at.Goals as goal

pub returns-clause-changed : goal.returns-clause-changed
returns-clause-changed g c =
    changed c.args.files.now.items c.args.at unlinked c.index_mut.result.now c.unlink.new.self c.requires.there c.index_mut.ensures.value c.unlink.ensures.name c.unlink.ensures.state

pub returns-clause-open : goal.returns-clause-open
returns-clause-open g c = stays_open c.args.files.now.items c.args.at c.index_mut.result.now c.unlink.new.self c.requires.there c.index_mut.ensures.value c.unlink.ensures.open
