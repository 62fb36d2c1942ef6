use Rattle.std.proofs.Common.{length}
use Rattle.disk_files.specs.Disk.{with_bytes}
use Rattle.disk_files.proofs.Table.{changed, room_grows, stays_open}
use Rattle.disk_files.proofs.memory_file.grow_at.Goals as goal

pub returns-clause-changed : goal.returns-clause-changed
returns-clause-changed g c =
    changed c.args.files.now.items c.args.at (with_bytes c.args.bytes.now) c.index_mut.result.now c.grow.new.self c.requires.there c.index_mut.ensures.value c.grow.ensures.name c.grow.ensures.state

pub returns-clause-open : goal.returns-clause-open
returns-clause-open g c = stays_open c.args.files.now.items c.args.at c.index_mut.result.now c.grow.new.self c.requires.there c.index_mut.ensures.value c.grow.ensures.open

pub returns-clause-room : goal.returns-clause-room
returns-clause-room g c =
    room_grows c.args.files.now.items c.args.at (length c.args.bytes.now) c.index_mut.result.now c.grow.new.self c.requires.there c.index_mut.ensures.value c.grow.ensures.room
