use Rattle.std.proofs.Common.{◌+◌, Ok, Err, length, ap, arith}
use Rattle.file_pieces.specs.Adding.{HasAny}
use Rattle.chunk_journal.specs.Places.{bytes_at}
use Rattle.file_pieces.specs.Pieces.{CanTake, places_room}
use Rattle.file_pieces.proofs.Steps.{adds_then, adds_less, told_as, still_open}
use Rattle.file_pieces.proofs.adding.add_piece.Goals as goal

pub copy_places-requires-clause-source : goal.copy_places-requires-clause-source
copy_places-requires-clause-source g c = still_open g.D.Dir.is_honest g.D.Dir.history g.D.Dir.opened g.D.Dir.bytes_left g.D.Dir.fault_count c.args.from c.args.to c.add_told.result (length c.deref.result.now) HasAny (λ _. c.deref.result.now) c.args.dir.now c.add_told.new.dir c.args.from (c.add_told.ensures c.args.from) c.requires.source

pub copy_places-requires-clause-open : goal.copy_places-requires-clause-open
copy_places-requires-clause-open g c = still_open g.D.Dir.is_honest g.D.Dir.history g.D.Dir.opened g.D.Dir.bytes_left g.D.Dir.fault_count c.args.from c.args.to c.add_told.result (length c.deref.result.now) HasAny (λ _. c.deref.result.now) c.args.dir.now c.add_told.new.dir c.args.to (c.add_told.ensures c.args.from) c.requires.open

pub copy_places-requires-clause-room : goal.copy_places-requires-clause-room
copy_places-requires-clause-room g c = let told = c.add_told.ensures c.args.from in omega (arith, c.requires.room, told.room, ap length c.deref.ensures.value)

pub returns-in-Ok-clause-adds : goal.returns-in-Ok-clause-adds
returns-in-Ok-clause-adds g c =
    let piece = c.args.piece.now in
    let told = told_as g.D.Dir.is_honest g.D.Dir.history g.D.Dir.opened g.D.Dir.bytes_left g.D.Dir.fault_count c.args.from c.args.to (Ok c.in-Ok.field-0) (λ seen. CanTake seen piece.places.now) c.deref.result.now piece.told.items c.args.dir.now c.add_told.new.dir c.deref.ensures.value (c.in-Ok.ensures c.args.from) in
    adds_then g.D.Dir.is_honest g.D.Dir.history g.D.Dir.opened g.D.Dir.bytes_left g.D.Dir.fault_count c.args.from c.args.to c.in-Ok.field-0 c.copy_places.result (length piece.told.items) (places_room piece.places.now) (λ seen. CanTake seen piece.places.now) (λ _. piece.told.items) (λ seen. bytes_at seen piece.places.now) c.args.dir.now c.add_told.new.dir c.copy_places.new.dir told c.copy_places.ensures.adds

pub returns-in-Err-clause-adds : goal.returns-in-Err-clause-adds
returns-in-Err-clause-adds g c =
    let piece = c.args.piece.now in
    let told = told_as g.D.Dir.is_honest g.D.Dir.history g.D.Dir.opened g.D.Dir.bytes_left g.D.Dir.fault_count c.args.from c.args.to (Err c.in-Err.fault) (λ seen. CanTake seen piece.places.now) c.deref.result.now piece.told.items c.args.dir.now c.add_told.new.dir c.deref.ensures.value (c.in-Err.ensures c.args.from) in
    adds_less g.D.Dir.is_honest g.D.Dir.history g.D.Dir.opened g.D.Dir.bytes_left g.D.Dir.fault_count c.args.from c.args.to c.in-Err.fault (length piece.told.items) (length piece.told.items + places_room piece.places.now) (omega arith) (λ seen. CanTake seen piece.places.now) (λ _. piece.told.items) (λ seen. bytes_at seen piece.places.now) c.args.dir.now c.add_told.new.dir told
