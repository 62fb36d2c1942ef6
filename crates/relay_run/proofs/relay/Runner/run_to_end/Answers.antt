use Rattle.std.proofs.Common.{ap, inl, inr, Some}
use Rattle.relay_run.specs.Loops.{RunningState}
use Rattle.relay_run.proofs.relay.Runner.run_to_end.Goals as goal

pub returns-in-Ok : goal.returns-in-Ok
returns-in-Ok g c = inl (c.in-Ok.ran.fault, c.in-Ok.ran.pools, ap (λ (r : RunningState). r.pools) c.in-Ok.ensures.ran, c.fault.ensures)

pub returns-in-Err : goal.returns-in-Err
returns-in-Err g c = inr (ap Some c.in-Err.ensures.full)
