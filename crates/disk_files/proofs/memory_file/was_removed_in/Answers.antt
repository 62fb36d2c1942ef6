use Rattle.std.proofs.Common.{sym}
use Rattle.disk_files.proofs.Changed.{place_found, place_none, removed_found, removed_none}
use Rattle.disk_files.proofs.memory_file.was_removed_in.Goals as goal

pub returns-in-Some : goal.returns-in-Some
returns-in-Some g c =
    removed_found c.args.files.now.items c.args.name.now c.in-Some.at c.index.result.now c.is_there.result
    (place_found c.args.files.now.items c.args.name.now c.in-Some.at (sym c.in-Some.ensures)) c.index.ensures c.is_there.ensures

pub returns-in-None : goal.returns-in-None
returns-in-None g c = λ sound. removed_none c.args.files.now.items c.args.name.now (place_none c.args.files.now.items c.args.name.now (sym c.in-None.ensures))
