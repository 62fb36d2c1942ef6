use Rattle.std.proofs.Common.{◌≡◌, ◌+◌, ap, sym, ◌∙◌, rules, arith}
use Rattle.file_pieces.specs.Pieces.{piece_room}
use Rattle.file_pieces.proofs.Sums.{sum_next}
use Rattle.file_pieces.proofs.piece.room_of.Goals as goal

pub loop-piece-preserved : goal.loop-piece-preserved
loop-piece-preserved g c =
    let next = sum_next piece_room c.args.pieces.now c.loop-piece.piece-index c.piece-item.result c.loop-piece-test.true c.piece-item.is in
    let so_far = c.loop-piece.invariant in
    let more : c.in_ok-room.room ≡ c.loop-piece.room + piece_room c.piece-item.result = search (rules, arith) in
    more ∙ ap (λ n. n + piece_room c.piece-item.result) so_far ∙ sym next
