use Rattle.std.proofs.Common.{arith}
use Rattle.disk_files.specs.Disk.{flushed}
use Rattle.disk_files.proofs.Table.{changed, room_grows, stays_open}
use Rattle.disk_files.proofs.memory_file.flush_at.Goals as goal

pub returns-clause-changed : goal.returns-clause-changed
returns-clause-changed g c =
    changed c.args.files.now.items c.args.at flushed c.index_mut.result.now c.flush.new.self c.requires.there c.index_mut.ensures.value c.flush.ensures.name c.flush.ensures.state

pub returns-clause-open : goal.returns-clause-open
returns-clause-open g c = stays_open c.args.files.now.items c.args.at c.index_mut.result.now c.flush.new.self c.requires.there c.index_mut.ensures.value c.flush.ensures.open

pub returns-clause-room : goal.returns-clause-room
returns-clause-room g c =
    let more = room_grows c.args.files.now.items c.args.at 0 c.index_mut.result.now c.flush.new.self c.requires.there c.index_mut.ensures.value (omega (arith, c.flush.ensures.room)) in
    omega (arith, more)
