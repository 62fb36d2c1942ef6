use Rattle.std.proofs.Common.{◌≡◌, ◌∙◌, ℕ, List, length, subst, sym}
use Rattle.std.proofs.lemmas.Result.{IfOk-weaker}
use Rattle.custody_steps.specs.Steps.{IsRefusedAt}
use Rattle.relay_net.specs.Network.{Network}
use Rattle.step_lines.specs.StepLines.{IsBadLine, SayAll}
use Rattle.text_lines.specs.Lines.{text_lines}
use Rattle.plan_answers.specs.Replays.{IsReplayed, lists_bad_line, lists_refusal, IsCodeOf}
use Rattle.program_text.specs.declared.status.Status.TheVariants.{No, Usage}
use Rattle.plan_answers.proofs.Fates.{relisted}
use Rattle.plan_answers.proofs.Taken.{IsRun, taken_listed}
use Rattle.plan_answers.proofs.replay.replay.Goals as goal
use Rattle.std.specs.Prelude.{codes, decimal, ◌++◌}
use Rattle.program_text.specs.Lines.{line}

pub returns-in-Err-BadLine : goal.returns-in-Err-BadLine
returns-in-Err-BadLine g c =
    let number = c.in-Err-BadLine.line in
    let is_bad = subst (IsBadLine g.row.A.Denot c.args.text.now) c.in-Err-BadLine.field-0-is c.in-Err-BadLine.ensures.bad_line in
    λ found earned. IfOk-weaker c.list_bad_line.result
    (λ said. (said.lines.items ≡ (line (codes "fault S3 line " ++ decimal number))) × (said.status ≡ Usage)) (λ said. IsReplayed c.args.plan.now found c.args.text.now said.lines.items said.status)
    (λ said is. lists_bad_line number is_bad is.0 is.1)
    c.list_bad_line.ensures

pub returns-in-Ok-run : goal.returns-in-Ok-run
returns-in-Ok-run g c =
    let plan = c.args.plan.now in
    let steps = c.deref.result.now in
    let w = c.in-Ok-run.world.shown.world in
    let ran = c.in-Ok-run.ensures in
    let run = subst (λ (n : Network _). IsRun n steps w) c.net.ensures.net (record { taken = ran.taken; made_up = ran.nothing_is_made_up; lost = ran.labelled_nothing_is_lost; each = ran.each_branch_keeps }) in
    let read = subst (SayAll (text_lines c.args.text.now)) (sym c.deref.ensures.value) c.in-Ok.ensures.steps in
    let count = c.len.ensures ∙ sym c.deref.ensures.len in
    let listed = relisted _ plan.duty _ plan.net _ (length steps) c.list_world.result (λ said. said.lines.items) (λ said. said.status) w c.duty.ensures (ran.net ∙ c.net.ensures.net) count c.list_world.ensures in
    λ found earned. taken_listed plan found c.args.text.now steps w c.list_world.result (λ said. said.lines.items) (λ said. said.status) read run c.net.ensures.distinct earned listed

pub returns : goal.returns
returns g c =
    let plan = c.args.plan.now in
    let steps = c.deref.result.now in
    let number = c.in-Err.step in
    let fault = c.in-Err.fault in
    let is_refused = subst (λ (n : Network _). IsRefusedAt n steps number fault) c.net.ensures.net c.in-Err.ensures.refused in
    let read = subst (SayAll (text_lines c.args.text.now)) (sym c.deref.ensures.value) c.in-Ok.ensures.steps in
    λ found earned. IfOk-weaker c.list_refusal.result
    (λ said. (code : List ℕ) × IsCodeOf fault code × (said.lines.items ≡ (line (codes "refused step " ++ decimal number ++ codes " " ++ code))) × (said.status ≡ No))
    (λ said. IsReplayed plan found c.args.text.now said.lines.items said.status)
    (λ said is. lists_refusal steps number fault is.0 read is_refused is.1 is.2 is.3)
    c.list_refusal.ensures
