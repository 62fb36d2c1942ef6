use Rattle.std.proofs.Common.{suc, List, ℕ, [], map, take, drop, length, get_or, sym, ap, ◌∙◌, arith, ◌<◌, ◌≤◌}
use Rattle.std.specs.Borrow.{Bor}
use Rattle.std.proofs.lemmas.List.{get_or-map, length-map, length-take-le, take_all}
use Rattle.step_lines.proofs.LinesRead.{say_step, say_nothing}
use Rattle.step_lines.proofs.Places.{split_at, take_next}
use Rattle.step_lines.proofs.step.Step.read_all.Goals as goal
use Rattle.step_lines.proofs.step.Step.read_all.Goals.{in-Step+in_ok-reserve-in-Step, in-Nothing}

pub returns-in-Bad-clause-bad_line : goal.returns-in-Bad-clause-bad_line
returns-in-Bad-clause-bad_line g c =
    let items = c.deref-line-items.result.now in
    let all = map (λ (line : Bor (List ℕ)). line.now) items in
    let at = c.loop-at.at in
    let line = (get_or items at (record { ref_ptr = (0, 0); now = [] })).now in
    let within : at < length all = simp length-map c.loop-at-test.true in
    let here = sym (get_or-map (λ (line : Bor (List ℕ)). line.now) items at (record { ref_ptr = (0, 0); now = [] }) line c.loop-at-test.true) in
    let said = c.in_ok-step.ensures in
    record {
      before = take at all;
      refused = line;
      others = drop (suc at) all;
      lines_are = sym c.in_ok-lines.ensures ∙ ap (map (λ (line : Bor (List ℕ)). line.now)) (sym c.deref-line-items.ensures.value) ∙ split_at all at line within here;
      number_is = let n = length-take-le at all (omega arith) in omega arith;
      is_bad = rw c.in-Bad.is at said;
      steps = c.loop-at.steps.items;
      said = c.loop-at.invariant;
    }

pub loop-at-preserved : goal.loop-at-preserved
loop-at-preserved g c =
    let items = c.deref-line-items.result.now in
    let all = map (λ (line : Bor (List ℕ)). line.now) items in
    let at = c.loop-at.at in
    let line = (get_or items at (record { ref_ptr = (0, 0); now = [] })).now in
    let within : at < length all = simp length-map c.loop-at-test.true in
    let here = sym (get_or-map (λ (line : Bor (List ℕ)). line.now) items at (record { ref_ptr = (0, 0); now = [] }) line c.loop-at-test.true) in
    let says = c.in_ok-step.ensures in
    rw (take_next all at line within here) (elim c.match-branch-3.branch [
      | in-Step+in_ok-reserve-in-Step w ↦ rw (w.steps-is, w.push_reserved.ensures.items, w.reserve.ensures.items) (say_step _ _ line _ c.loop-at.invariant (rw w.in-Step.is at says))
      | in-Nothing w ↦ rw w.steps-is (say_nothing _ _ line c.loop-at.invariant (rw w.in-Nothing.is at says))
    ])

pub returns-clause-steps : goal.returns-clause-steps
returns-clause-steps g c =
    let items = c.deref-line-items.result.now in
    let all = map (λ (line : Bor (List ℕ)). line.now) items in
    let past : length all ≤ c.loop-at.at = simp length-map c.loop-at-test.false in
    rw (← c.in_ok-lines.ensures, ← c.deref-line-items.ensures.value) (rw (take_all c.loop-at.at all past) at c.loop-at.invariant)
