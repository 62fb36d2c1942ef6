use Rattle.relayctl.proofs.Stops.{stopped_labels}
use Rattle.relayctl.proofs.label.run_label.Goals as goal

pub returns-in-Err : goal.returns-in-Err
returns-in-Err g c =
    stopped_labels g.row.A.Denot (g.R.CountedRead.remaining c.args.net.now) (g.O.Open.text_of c.args.files.now) (g.W.Write.contents c.args.out.now) (g.W.Write.contents c.print_plan_stop.new.out)
    c.in-Err.stop c.print_plan_stop.result c.in-Err.ensures.stop c.print_plan_stop.ensures
