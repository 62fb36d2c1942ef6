use Rattle.relayctl.specs.Checking.{IsCheck}
use Rattle.relayctl.proofs.Stopping.{prints_such}
use Rattle.relayctl.proofs.check.run_check.Goals as goal

pub returns : goal.returns
returns g c =
    prints_such (IsCheck g.row.A.Denot (g.R.CountedRead.remaining c.args.net.now) (g.O.Open.text_of c.args.files.now) c.args.drops.now) (g.W.Write.contents c.args.out.now) (g.W.Write.contents c.print_check.new.out)
    (g.F.Write.contents c.args.faults.now) (g.F.Write.contents c.print_check.new.faults) c.print_check.result c.check_read-found.result c.check_read-found.ensures c.print_check.ensures
