use Rattle.std.proofs.Common.{◌≤◌, OnOk, sym, subst, arith}
use Rattle.disk_files.specs.Table.{room_of}
use Rattle.disk_files.proofs.Table.{changed, room_grows, stays_open, entry_read, get_set}
use Rattle.disk_files.proofs.memory_file.reserve_at.Goals as goal

pub returns-clause-same : goal.returns-clause-same
returns-clause-same g c =
    changed c.args.files.now.items c.args.at (λ f. f) c.index_mut.result.now c.reserve.new.self c.requires.there c.index_mut.ensures.value c.reserve.ensures.name c.reserve.ensures.state

pub returns-clause-more : goal.returns-clause-more
returns-clause-more g c =
    let more = room_grows c.args.files.now.items c.args.at 0 c.index_mut.result.now c.reserve.new.self c.requires.there c.index_mut.ensures.value (omega (arith, c.reserve.ensures.more)) in
    omega (arith, more)

pub returns-clause-open : goal.returns-clause-open
returns-clause-open g c = stays_open c.args.files.now.items c.args.at c.index_mut.result.now c.reserve.new.self c.requires.there c.index_mut.ensures.value c.reserve.ensures.open

pub returns-clause-room : goal.returns-clause-room
returns-clause-room g c =
    let files = c.args.files.now.items in
    let read = entry_read files c.args.at c.index_mut.result.now c.requires.there c.index_mut.ensures.value in
    subst (λ o. OnOk c.reserve.result (c.args.room ≤ room_of o)) (sym (get_set files c.args.at c.index_mut.result.now c.reserve.new.self read)) c.reserve.ensures.room
