use Rattle.std.proofs.Common.{map}
use Rattle.std.specs.Prelude.{string_bytes}
use Rattle.relayctl.specs.Adapting.{IsAdaptedCheck}
use Rattle.relayctl.proofs.Stopping.{prints_such}
use Rattle.relayctl.proofs.check.run_adapted_check.Goals as goal

pub returns : goal.returns
returns g c =
    prints_such (IsAdaptedCheck g.row.A.Denot (g.R.CountedRead.remaining c.args.net.now) (g.O.Open.text_of c.args.files.now) (map string_bytes c.args.accepted.now) c.args.drops.now) (g.W.Write.contents c.args.out.now) (g.W.Write.contents c.print_check.new.out)
    (g.F.Write.contents c.args.faults.now) (g.F.Write.contents c.print_check.new.faults) c.print_check.result c.check_adapted-found.result c.check_adapted-found.ensures c.print_check.ensures
