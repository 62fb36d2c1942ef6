use Rattle.std.proofs.Common.{List, ℕ, [], map, take, get_or, sym, ◌∙◌}
use Rattle.std.specs.Borrow.{Bor}
use Rattle.std.proofs.lemmas.List.{map_more}
use Rattle.output_state.specs.Rows.{state_of}
use Rattle.output_state.proofs.Kept.{kept, passed}
use Rattle.output_state.proofs.reading.rows_in.Goals as goal
use Rattle.output_state.proofs.reading.rows_in.Goals.{in-Some+in_ok-push, in_default}

pub loop-line-preserved : goal.loop-line-preserved
loop-line-preserved g c =
    let items = c.deref-line-items.result.now in
    let at = c.loop-line.line-index in
    let none : Bor (List ℕ) = record { ref_ptr = (0, 0); now = [] } in
    let front = map (λ (line : Bor (List ℕ)). line.now) (take at items) in
    let line = (get_or items at none).now in
    let read = c.in_ok-state.ensures in
    rw (map_more (λ (line : Bor (List ℕ)). line.now) items at none c.loop-line-test.true) (elim c.match-branch-3.branch [
      | in-Some+in_ok-push w ↦ rw (w.states-is, w.in_ok-push.ensures.items) (kept state_of front line c.loop-line.states.items c.loop-line.invariant _ (sym w.in-Some.is ∙ read))
      | in_default w ↦ rw w.states-is (passed state_of front line c.loop-line.states.items c.loop-line.invariant (sym w.in_default.is ∙ read))
    ])
