use Rattle.std.specs.Vec.Iter.{into_iter_items}
use Rattle.std.proofs.lemmas.List.Elements.{All-push, All-same}
use Rattle.loop_core.proofs.Moving.{moved}
use Rattle.std.proofs.Common.{ap, map}
use Rattle.relay_run.specs.Loops.{IsCarried, placed_as, placed_in}
use Rattle.relay_run.proofs.running.open_pools.Goals as goal

pub loop-job-preserved : goal.loop-job-preserved
loop-job-preserved g c =
    let P = IsCarried c.args.home.path.now in
    let m = c.in_ok-push.ensures.items in
    record {
      jobs =
          moved placed_in c.loop-job.pools.items c.push.new.self.items c.in_ok-open.field-0 (map placed_as (into_iter_items c.loop-job.left))
          (map placed_as (into_iter_items c.next.new.self)) (placed_as c.in-Some.job) (map placed_as c.args.jobs.items) m (ap (map placed_as) c.in-Some.ensures.items)
          c.in_ok-open.ensures.job c.loop-job.invariant.jobs;
      pools = All-same P c.push.new.self.items _ m (All-push P c.loop-job.pools.items c.in_ok-open.field-0 c.loop-job.invariant.pools c.in_ok-open.ensures.carrier);
    }
