use Rattle.program_text.proofs.ReadingSteps.{none_read}
use Rattle.relay_run.specs.Starting.{refused, runs}
use Rattle.relay_run.proofs.relay.Runner.run_conf.Goals as goal

pub returns-in-Ok : goal.returns-in-Ok
returns-in-Ok g c = runs c.in-Ok.relay c.in-Ok.ensures.relay c.run_read.ensures

pub returns-in-Err : goal.returns-in-Err
returns-in-Err g c =
    let out = g.W.Write.contents in
    refused (none_read (g.I.CountedRead.remaining c.args.conf.now) (out c.args.out.now) (out c.print_conf_stop.new.out) c.in-Err.stop c.print_conf_stop.result
    c.in-Err.ensures.stop c.print_conf_stop.ensures)
