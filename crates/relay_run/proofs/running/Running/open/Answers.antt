use Rattle.relay_run.proofs.RunningSteps.{goes_on}
use Rattle.relay_run.proofs.running.Running.open.Goals as goal

pub returns-in-Ok : goal.returns-in-Ok
returns-in-Ok g c =
    let opened = c.in_ok-turning.ensures in
    goes_on c.args.home.path.now c.args.bound _ c.in_ok-turning.field-0.jobs.items
    opened.sources opened.ports opened.buffers opened.jobs opened.placed c.in-Ok.ensures.jobs c.in-Ok.ensures.pools
