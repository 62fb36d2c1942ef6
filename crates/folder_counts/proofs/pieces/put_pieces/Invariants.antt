use Rattle.std.proofs.Common.{◌≡◌, ◌++◌, take}
use Rattle.std.specs.List.{flat_map}
use Rattle.folder_counts.specs.Pieces.{piece_text}
use Rattle.folder_counts.proofs.pieces.put_pieces.Given as goal

abbrev pub invariant-loop-piece : goal.invariant-loop-piece
invariant-loop-piece g l = l.text.items ≡ l.fn.text.items ++ flat_map piece_text (take l.piece-index l.pieces)
