use Rattle.std.proofs.Common.{◌∙◌}
use Rattle.relay_run.specs.Loops.{relay_of}
use Rattle.relay_run.specs.Starting.{opened}
use Rattle.relay_run.proofs.RunningSteps.{runs_as}
use Rattle.relay_run.proofs.StartingSteps.{unopened}
use Rattle.relay_run.proofs.relay.Runner.run_with.Goals as goal

pub returns-in-Ok : goal.returns-in-Ok
returns-in-Ok g c = opened (relay_of c.in-Ok.running) (runs_as {number = c.args.number} {relay = c.args.relay} c.in-Ok.ensures) c.run_open.ensures

pub returns-in-Err : goal.returns-in-Err
returns-in-Err g c =
    unopened c.args.self.now c.args.number c.args.relay (g.W.Write.contents c.args.out.now) (g.W.Write.contents c.put_last.new.out) c.in-Err.fault c.as_bytes.result.now
    c.put_last.result (c.as_bytes.ensures.value ∙ c.fault_line.ensures) c.put_last.ensures
