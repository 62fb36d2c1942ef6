use Rattle.std.proofs.Common.{◌≡◌, take}
use Rattle.file_pieces.specs.Pieces.{places_room}
use Rattle.file_pieces.proofs.piece.room_at.Given as goal

abbrev pub invariant-loop-place : goal.invariant-loop-place
invariant-loop-place l = l.room ≡ places_room (take l.place-index l.places)
