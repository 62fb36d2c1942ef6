use Rattle.std.proofs.Common.{◌≡◌, ◌≤◌, ◌++◌, [], ◌∷◌, List, ℕ, map, length, Some, slice_get, ap, ◌∙◌, arith}
use Rattle.std.specs.Borrow.{Bor}
use Rattle.std.proofs.lemmas.List.{length-map, map_push, take_all}
use Rattle.text_lines.specs.Lines.{lines_of_pieces}
use Rattle.text_lines.proofs.Returns.{length-lines_of_pieces, one_longer}
use Rattle.text_lines.proofs.lines.Goals as goal

pub loop-at-preserved : goal.loop-at-preserved
loop-at-preserved g c =
    let pieces = map (λ (piece : Bor (List ℕ)). piece.now) c.in_ok-pieces.pieces.items in
    let at = c.loop-at.at in
    let line = c.line_at.result in
    let here : slice_get (lines_of_pieces pieces) at ≡ Some line.now = rw c.deref.ensures.value at c.line_at.ensures in
    rw (one_longer (lines_of_pieces pieces) at line.now here, c.in_ok-push.ensures.items, map_push (λ (line : Bor (List ℕ)). line.now) c.loop-at.lines.items line)
    (ap (λ (xs : List (List ℕ)). xs ++ line.now ∷ []) c.loop-at.invariant)

pub returns : goal.returns
returns g c =
    let pieces = map (λ (piece : Bor (List ℕ)). piece.now) c.in_ok-pieces.pieces.items in
    let long = length-lines_of_pieces pieces in
    let same = length-map c.in_ok-pieces.pieces.items (λ (piece : Bor (List ℕ)). piece.now) in
    let held = c.in_ok-pieces.pieces.ok.0 in
    let past : length (lines_of_pieces pieces) ≤ c.loop-at.at = omega (arith, long, same) in
    c.loop-at.invariant ∙ take_all c.loop-at.at (lines_of_pieces pieces) past ∙ ap lines_of_pieces c.in_ok-pieces.ensures
