use Rattle.std.proofs.Common.{◌+◌, Ok, Err, subst, sym, arith}
use Rattle.file_pieces.specs.Pieces.{AreWithin, CanTake, piece_bytes, piece_room}
use Rattle.file_pieces.proofs.Sums.{all_at}
use Rattle.file_pieces.proofs.Steps.{added_start, added_on, added_less, added_all, room_next, open_yet}
use Rattle.file_pieces.proofs.adding.add_pieces.Goals as goal

pub loop-piece-init : goal.loop-piece-init
loop-piece-init g c = added_start g.D.Dir.is_honest g.D.Dir.history g.D.Dir.opened g.D.Dir.bytes_left g.D.Dir.fault_count c.args.from c.args.to c.args.pieces.now piece_room piece_bytes (λ seen. AreWithin seen c.args.pieces.now) c.args.dir.now

pub add_piece-requires-clause-source : goal.add_piece-requires-clause-source
add_piece-requires-clause-source g c =
    open_yet g.D.Dir.is_honest g.D.Dir.history g.D.Dir.opened g.D.Dir.bytes_left g.D.Dir.fault_count c.args.from c.args.to c.args.pieces.now piece_room piece_bytes (λ seen. AreWithin seen c.args.pieces.now) (Ok (tt {0})) c.loop-piece.piece-index c.args.dir.now c.loop-piece.dir c.args.from c.loop-piece.invariant c.requires.source

pub add_piece-requires-clause-open : goal.add_piece-requires-clause-open
add_piece-requires-clause-open g c =
    open_yet g.D.Dir.is_honest g.D.Dir.history g.D.Dir.opened g.D.Dir.bytes_left g.D.Dir.fault_count c.args.from c.args.to c.args.pieces.now piece_room piece_bytes (λ seen. AreWithin seen c.args.pieces.now) (Ok (tt {0})) c.loop-piece.piece-index c.args.dir.now c.loop-piece.dir c.args.to c.loop-piece.invariant c.requires.open

pub add_piece-requires-clause-room : goal.add_piece-requires-clause-room
add_piece-requires-clause-room g c =
    room_next g.D.Dir.is_honest g.D.Dir.history g.D.Dir.opened g.D.Dir.bytes_left g.D.Dir.fault_count c.args.from c.args.to c.args.pieces.now piece_room piece_bytes (λ seen. AreWithin seen c.args.pieces.now) (Ok (tt {0})) c.loop-piece.piece-index c.piece-item.result c.args.dir.now c.loop-piece.dir c.loop-piece-test.true c.piece-item.is c.requires.room c.loop-piece.invariant

pub returns-in-Err : goal.returns-in-Err
returns-in-Err g c =
    let piece = c.piece-item.result in
    added_less g.D.Dir.is_honest g.D.Dir.history g.D.Dir.opened g.D.Dir.bytes_left g.D.Dir.fault_count c.args.from c.args.to c.args.pieces.now piece_room piece_bytes (λ seen. AreWithin seen c.args.pieces.now) c.in-Err.fault (c.loop-piece.piece-index + 1) c.args.dir.now c.add_piece.new.dir
    (added_on g.D.Dir.is_honest g.D.Dir.history g.D.Dir.opened g.D.Dir.bytes_left g.D.Dir.fault_count c.args.from c.args.to c.args.pieces.now piece_room piece_bytes (λ seen. AreWithin seen c.args.pieces.now) (tt {0}) (Err c.in-Err.fault) c.loop-piece.piece-index piece c.args.dir.now c.loop-piece.dir c.add_piece.new.dir (λ seen. CanTake seen piece.places.now) c.loop-piece-test.true c.piece-item.is
    (λ seen all. subst (λ p. CanTake seen p.places.now) (sym c.piece-item.is) (all_at (λ p. CanTake seen p.places.now) c.args.pieces.now c.loop-piece.piece-index piece all c.loop-piece-test.true)) c.loop-piece.invariant c.in-Err.ensures.adds)

pub loop-piece-preserved : goal.loop-piece-preserved
loop-piece-preserved g c =
    let piece = c.piece-item.result in
    added_on g.D.Dir.is_honest g.D.Dir.history g.D.Dir.opened g.D.Dir.bytes_left g.D.Dir.fault_count c.args.from c.args.to c.args.pieces.now piece_room piece_bytes (λ seen. AreWithin seen c.args.pieces.now) (tt {0}) (Ok (tt {0})) c.loop-piece.piece-index piece c.args.dir.now c.loop-piece.dir c.add_piece.new.dir (λ seen. CanTake seen piece.places.now) c.loop-piece-test.true c.piece-item.is
    (λ seen all. subst (λ p. CanTake seen p.places.now) (sym c.piece-item.is) (all_at (λ p. CanTake seen p.places.now) c.args.pieces.now c.loop-piece.piece-index piece all c.loop-piece-test.true)) c.loop-piece.invariant c.in_default.ensures.adds

pub returns : goal.returns
returns g c = added_all g.D.Dir.is_honest g.D.Dir.history g.D.Dir.opened g.D.Dir.bytes_left g.D.Dir.fault_count c.args.from c.args.to c.args.pieces.now piece_room piece_bytes (λ seen. AreWithin seen c.args.pieces.now) (Ok (tt {0})) c.loop-piece.piece-index c.args.dir.now c.loop-piece.dir (omega (arith, c.loop-piece-test.false)) c.loop-piece.invariant
