use Rattle.std.proofs.Common.{List, ℕ, [], map, get_or, sym, ap, ◌∙◌, Some, arith}
use Rattle.std.specs.Borrow.{Bor}
use Rattle.std.proofs.lemmas.List.{get_or-map, length-map}
use Rattle.text_lines.proofs.Returns.{lines_of_inner, lines_of_last}
use Rattle.text_lines.proofs.line_at.Goals as goal

pub returns-then-at-pieces : goal.returns-then-at-pieces
returns-then-at-pieces c =
    let pieces = c.args.pieces.now in
    let at = c.args.at in
    let piece = get_or pieces at (record { ref_ptr = (0, 0); now = [] }) in
    lines_of_inner (map (λ (line : Bor (List ℕ)). line.now) pieces) at piece.now (simp length-map c.if-at-pieces.true)
    (sym (get_or-map (λ (line : Bor (List ℕ)). line.now) pieces at (record { ref_ptr = (0, 0); now = [] }) piece.now (omega arith))) ∙ ap Some (sym c.without_return.ensures)

pub returns-else-at-pieces : goal.returns-else-at-pieces
returns-else-at-pieces c =
    let pieces = c.args.pieces.now in
    let at = c.args.at in
    let piece = get_or pieces at (record { ref_ptr = (0, 0); now = [] }) in
    lines_of_last (map (λ (line : Bor (List ℕ)). line.now) pieces) at piece.now (simp length-map (omega arith))
    (sym (get_or-map (λ (line : Bor (List ℕ)). line.now) pieces at (record { ref_ptr = (0, 0); now = [] }) piece.now (omega arith)))
