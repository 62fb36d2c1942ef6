use Rattle.std.proofs.Common.{◌∙◌}
use Rattle.relay_run.proofs.StartingSteps.{unopened}
use Rattle.relay_run.proofs.relay.Runner.run_read.Goals as goal

pub returns-in-Err : goal.returns-in-Err
returns-in-Err g c =
    unopened c.args.self.now c.args.number c.args.relay (g.W.Write.contents c.args.out.now) (g.W.Write.contents c.put_last.new.out) c.in-Err.fault c.as_bytes.result.now
    c.put_last.result (c.as_bytes.ensures.value ∙ c.fault_line.ensures) c.put_last.ensures
