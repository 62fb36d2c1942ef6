use Rattle.std.proofs.Common.{◌≤◌, [], length, arith}
use Rattle.step_lines.proofs.Places.{two_and_more}
use Rattle.step_lines.proofs.lines.sent_step.Goals as goal

pub returns-in-len2-up-clause-step : goal.returns-in-len2-up-clause-step
returns-in-len2-up-clause-step g c =
    let fields = c.args.fields.now in
    let some : 2 ≤ length fields = omega arith in
    rw (two_and_more fields (record { ref_ptr = (0, 0); now = [] }) some) c.send_of.ensures.step

pub returns-in-len2-up-clause-none : goal.returns-in-len2-up-clause-none
returns-in-len2-up-clause-none g c =
    let fields = c.args.fields.now in
    let some : 2 ≤ length fields = omega arith in
    rw (two_and_more fields (record { ref_ptr = (0, 0); now = [] }) some) c.send_of.ensures.none
