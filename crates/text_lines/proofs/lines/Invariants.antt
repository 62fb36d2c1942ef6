use Rattle.std.proofs.Common.{◌≡◌, List, ℕ, map, take}
use Rattle.std.specs.Borrow.{Bor}
use Rattle.text_lines.specs.Lines.{lines_of_pieces}
use Rattle.text_lines.proofs.lines.Given as goal

abbrev pub invariant-loop-at : goal.invariant-loop-at
invariant-loop-at g l = map (λ (line : Bor (List ℕ)). line.now) l.lines.items ≡ take l.at (lines_of_pieces (map (λ (piece : Bor (List ℕ)). piece.now) l.pieces.items))
