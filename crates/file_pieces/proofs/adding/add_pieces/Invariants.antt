use Rattle.std.proofs.Common.{Ok}
use Rattle.file_pieces.specs.Pieces.{AreWithin, piece_bytes, piece_room}
use Rattle.file_pieces.proofs.Steps.{Added}
use Rattle.file_pieces.proofs.adding.add_pieces.Given as goal

abbrev pub invariant-loop-piece : goal.invariant-loop-piece
invariant-loop-piece g l = Added g.D.Dir.is_honest g.D.Dir.history g.D.Dir.opened g.D.Dir.bytes_left g.D.Dir.fault_count l.from l.to l.pieces piece_room piece_bytes (λ seen. AreWithin seen l.pieces) l.fn.dir l.dir l.piece-index (Ok (tt {0}))
