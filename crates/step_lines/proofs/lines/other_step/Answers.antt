use Rattle.std.proofs.Common.{◌≡◌, [], length, arith}
use Rattle.step_lines.proofs.Places.{one_item, two_items, three_items, if_ok_weaker, if_none_weaker}
use Rattle.step_lines.proofs.NoSteps.{no_other_length}
use Rattle.step_lines.proofs.lines.other_step.Goals as goal
use Rattle.step_lines.proofs.lines.other_step.Goals.{in_default-via-then-fields-lt1, in_default-via-else-fields-lt1+else-fields-lt2+else-fields-lt3+else-fields-lt4}

pub returns-in-len1-clause-step : goal.returns-in-len1-clause-step
returns-in-len1-clause-step g c =
    let fields = c.args.fields.now in
    let one : length fields ≡ 1 = omega arith in
    rw (one_item fields (record { ref_ptr = (0, 0); now = [] }) one) c.short_step.ensures.step

pub returns-in-len2-clause-step : goal.returns-in-len2-clause-step
returns-in-len2-clause-step g c =
    let fields = c.args.fields.now in
    let two : length fields ≡ 2 = omega arith in
    rw (two_items fields (record { ref_ptr = (0, 0); now = [] }) two) c.middle_step.ensures.step

pub returns-in-len1-clause-none : goal.returns-in-len1-clause-none
returns-in-len1-clause-none g c =
    let fields = c.args.fields.now in
    let one : length fields ≡ 1 = omega arith in
    rw (one_item fields (record { ref_ptr = (0, 0); now = [] }) one) (if_ok_weaker c.short_step.result (λ found none. if_none_weaker found (λ no other. no) none) c.short_step.ensures.none)

pub returns-in-len2-clause-none : goal.returns-in-len2-clause-none
returns-in-len2-clause-none g c =
    let fields = c.args.fields.now in
    let two : length fields ≡ 2 = omega arith in
    rw (two_items fields (record { ref_ptr = (0, 0); now = [] }) two) c.middle_step.ensures.none

pub returns-in-len3-clause-step : goal.returns-in-len3-clause-step
returns-in-len3-clause-step g c =
    let fields = c.args.fields.now in
    let three : length fields ≡ 3 = omega arith in
    rw (three_items fields (record { ref_ptr = (0, 0); now = [] }) three) c.long_step.ensures.step

pub returns-in-len3-clause-none : goal.returns-in-len3-clause-none
returns-in-len3-clause-none g c =
    let fields = c.args.fields.now in
    let three : length fields ≡ 3 = omega arith in
    rw (three_items fields (record { ref_ptr = (0, 0); now = [] }) three) c.long_step.ensures.none

pub returns-in_default-clause-none : goal.returns-in_default-clause-none
returns-in_default-clause-none g c = elim c.in_default.branch [
  | in_default-via-then-fields-lt1 w ↦ no_other_length c.args.name.now c.args.fields.now (λ e. absurd (grind (arith, w, e))) (λ e. absurd (grind (arith, w, e))) (λ e. absurd (grind (arith, w, e)))
  | in_default-via-else-fields-lt1+else-fields-lt2+else-fields-lt3+else-fields-lt4 w ↦ no_other_length c.args.name.now c.args.fields.now (λ e. absurd (grind (arith, w, e))) (λ e. absurd (grind (arith, w, e))) (λ e. absurd (grind (arith, w, e)))
]
