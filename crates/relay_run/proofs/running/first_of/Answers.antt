use Rattle.std.proofs.Common.{arith}
use Rattle.relay_run.proofs.RunningSteps.{fault_more, no_more}
use Rattle.relay_run.proofs.running.first_of.Goals as goal

pub loop-end-preserved : goal.loop-end-preserved
loop-end-preserved c =
    fault_more c.loop-end.first c.or-first.result c.fault.result c.end-item.result c.args.ends.now c.loop-end.end-index c.args.fault c.or-first.ensures c.fault.ensures (omega arith) c.end-item.is
    c.loop-end.invariant

pub returns : goal.returns
returns c = no_more c.loop-end.first c.args.ends.now c.loop-end.end-index c.args.fault (omega arith) c.loop-end.invariant
