use Rattle.std.proofs.Common.{◌∙◌, subst}
use Rattle.program_text.specs.declared.status.Status.{Status}
use Rattle.program_text.specs.Output.{IsPrinted}
use Rattle.plan_answers.proofs.NetworkSteps.{answered_check, stopped_check}
use Rattle.plan_answers.proofs.network.run_check.Goals as goal

pub returns-in-Err-clause-printed : goal.returns-in-Err-clause-printed
returns-in-Err-clause-printed g c =
    stopped_check g.row.A.Denot (g.R.CountedRead.remaining c.args.net.now) (g.O.Open.text_of c.args.files.now) (g.W.Write.contents c.args.out.now) (g.W.Write.contents c.print_plan_stop.new.out)
    c.in-Err.stop c.print_plan_stop.result c.in-Err.ensures.stop c.print_plan_stop.ensures

pub returns-in-Ok-clause-printed : goal.returns-in-Ok-clause-printed
returns-in-Ok-clause-printed g c =
    let out = g.W.Write.contents in
    let checked = c.in-Ok.checked in
    let printed = subst (λ (m : Status). IsPrinted (out c.args.out.now) (out c.put_last.new.out) c.as_bytes.result.now m c.put_last.result) c.status_of.ensures c.put_last.ensures in
    answered_check g.row.A.Denot (g.R.CountedRead.remaining c.args.net.now) (g.O.Open.text_of c.args.files.now) (out c.args.out.now) (out c.put_last.new.out)
    checked.plan checked.answer c.as_bytes.result.now c.put_last.result c.in-Ok.ensures.answered (c.as_bytes.ensures.value ∙ c.in-Ok.ensures.line) printed
