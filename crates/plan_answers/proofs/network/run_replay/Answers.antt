use Rattle.std.proofs.Common.{subst, sym, ◌∙◌, ℕ, List}
use Rattle.program_text.specs.declared.status.Status.{Status}
use Rattle.plan_answers.specs.Networks.{AreReplayed}
use Rattle.program_text.specs.Output.{IsPrinted}
use Rattle.plan_answers.proofs.NetworkSteps.{cut_replay, stopped_replay, whole_replay, unread_replay}
use Rattle.plan_answers.proofs.network.run_replay.Goals as goal

pub returns-in-Err-clause-printed : goal.returns-in-Err-clause-printed
returns-in-Err-clause-printed g c =
    let out = g.W.Write.contents in
    stopped_replay g.row.A.Denot (g.R.CountedRead.remaining c.args.net.now) (g.O.Open.text_of c.args.files.now) (g.S.CountedRead.remaining c.args.steps.now)
    (out c.args.out.now) (out c.print_plan_stop.new.out) c.in-Err.stop c.print_plan_stop.result c.in-Err.ensures.stop c.print_plan_stop.ensures

pub returns-in-Ok-replay_read-clause-printed : goal.returns-in-Ok-replay_read-clause-printed
returns-in-Ok-replay_read-clause-printed g c =
    let out = g.W.Write.contents in
    let steps = g.S.CountedRead.remaining c.args.steps.now in
    let checked = c.in-Ok.checked in
    let said = c.in-Ok-replay_read.said in
    let line = c.as_bytes.ensures.value ∙ c.in-Ok.ensures.line in
    let replayed = subst (λ (l : List ℕ). AreReplayed checked.plan checked.answer steps l said.status) (sym c.deref.ensures.value) (c.in-Ok-replay_read.ensures.replayed checked.answer c.in-Ok.ensures.answered.answer_is) in
    let printed = subst (λ (m : Status). IsPrinted (out c.put_all.new.out) (out c.put_last.new.out) c.deref.result.now m c.put_last.result) c.joined.ensures c.put_last.ensures in
    whole_replay g.row.A.Denot (g.R.CountedRead.remaining c.args.net.now) (g.O.Open.text_of c.args.files.now) steps
    (out c.args.out.now) (out c.put_all.new.out) (out c.put_last.new.out)
    checked.plan checked.answer c.as_bytes.result.now c.deref.result.now said.status c.put_last.result
    c.in-Ok.ensures.answered line c.in_default.ensures.ok replayed printed

pub returns-clause-printed : goal.returns-clause-printed
returns-clause-printed g c =
    let out = g.W.Write.contents in
    let checked = c.in-Ok.checked in
    let line = c.as_bytes.ensures.value ∙ c.in-Ok.ensures.line in
    let unread = c.as_bytes-in-Err-replay_read.ensures.value ∙ c.unread_line.ensures in
    unread_replay g.row.A.Denot (g.R.CountedRead.remaining c.args.net.now) (g.O.Open.text_of c.args.files.now) (g.S.CountedRead.remaining c.args.steps.now)
    (out c.args.out.now) (out c.put_all.new.out) (out c.put_last-in-Err-replay_read.new.out)
    checked.plan checked.answer c.as_bytes.result.now c.as_bytes-in-Err-replay_read.result.now c.in-Err-replay_read.fault c.put_last-in-Err-replay_read.result
    c.in-Ok.ensures.answered line c.in_default.ensures.ok unread c.put_last-in-Err-replay_read.ensures

pub returns-in-Err-put_all-clause-printed : goal.returns-in-Err-put_all-clause-printed
returns-in-Err-put_all-clause-printed g c =
    let out = g.W.Write.contents in
    let checked = c.in-Ok.checked in
    cut_replay g.row.A.Denot (g.R.CountedRead.remaining c.args.net.now) (g.O.Open.text_of c.args.files.now) (g.S.CountedRead.remaining c.args.steps.now)
    (out c.args.out.now) (out c.put_all.new.out) checked.plan checked.answer c.as_bytes.result.now
    c.in-Ok.ensures.answered (c.as_bytes.ensures.value ∙ c.in-Ok.ensures.line) c.in-Err-put_all.ensures.err
