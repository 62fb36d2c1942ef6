use Rattle.std.proofs.Common.{◌≡◌, codes}
use Rattle.step_lines.proofs.NoSteps.{other_word}
use Rattle.step_lines.proofs.Places.{if_ok_weaker, if_none_weaker}
use Rattle.step_lines.proofs.lines.step_of.Goals as goal

pub returns-clause-step : goal.returns-clause-step
returns-clause-step g c = rw c.in-Some.ensures.cases.0 c.other_step.ensures.step

pub returns-clause-none : goal.returns-clause-none
returns-clause-none g c =
    rw c.in-Some.ensures.cases.0
    (if_ok_weaker c.other_step.result (λ found none. if_none_weaker found (λ no. no (other_word c.is_word.ensures c.if-is_word.false)) none) c.other_step.ensures.none)

pub returns-then-is_word-clause-step : goal.returns-then-is_word-clause-step
returns-then-is_word-clause-step g c =
    let same : c.in-Some.name.now.now ≡ codes "send" = c.is_word.ensures.0 c.if-is_word.true in
    rw (c.in-Some.ensures.cases.0, same) c.sent_step.ensures.step

pub returns-then-is_word-clause-none : goal.returns-then-is_word-clause-none
returns-then-is_word-clause-none g c =
    let same : c.in-Some.name.now.now ≡ codes "send" = c.is_word.ensures.0 c.if-is_word.true in
    rw (c.in-Some.ensures.cases.0, same) c.sent_step.ensures.none
