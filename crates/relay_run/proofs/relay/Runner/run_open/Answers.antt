use Rattle.relay_run.specs.Loops.{relay_of}
use Rattle.relay_run.proofs.StartingSteps.{ended_well}
use Rattle.relay_run.proofs.relay.Runner.run_open.Goals as goal

pub returns-in-None : goal.returns-in-None
returns-in-None g c =
    ended_well (relay_of c.args.running) (g.W.Write.contents c.args.out.now) (g.W.Write.contents c.put_ready.new.out) c.run_to_end.result c.put_ready.ensures c.run_to_end.ensures c.in-None.is
