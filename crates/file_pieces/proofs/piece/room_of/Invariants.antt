use Rattle.std.proofs.Common.{◌≡◌, take}
use Rattle.file_pieces.specs.Pieces.{total_room}
use Rattle.file_pieces.proofs.piece.room_of.Given as goal

abbrev pub invariant-loop-piece : goal.invariant-loop-piece
invariant-loop-piece g l = l.room ≡ total_room (take l.piece-index l.pieces)
