use Rattle.std.proofs.Common.{arith}
use Rattle.disk_files.proofs.Table.{changed, room_grows, sets_open}
use Rattle.disk_files.proofs.memory_file.set_open_at.Goals as goal

pub returns-clause-same : goal.returns-clause-same
returns-clause-same g c =
    changed c.args.files.now.items c.args.at (λ f. f) c.index_mut.result.now c.set_open.new.self c.requires.there c.index_mut.ensures.value c.set_open.ensures.name c.set_open.ensures.state

pub returns-clause-room : goal.returns-clause-room
returns-clause-room g c =
    let more = room_grows c.args.files.now.items c.args.at 0 c.index_mut.result.now c.set_open.new.self c.requires.there c.index_mut.ensures.value (omega (arith, c.set_open.ensures.room)) in
    omega (arith, more)

pub returns-clause-open : goal.returns-clause-open
returns-clause-open g c =
    sets_open c.args.files.now.items c.args.at c.index_mut.result.now c.set_open.new.self c.args.is_open c.requires.there c.index_mut.ensures.value c.set_open.ensures.open
