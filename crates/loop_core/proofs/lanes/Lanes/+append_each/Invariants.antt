use Rattle.std.proofs.Common.{length}
use Rattle.loop_core.proofs.lanes.Lanes.+append_each.Given as goal

abbrev pub decreases-append_each : goal.decreases-append_each
decreases-append_each g l = length l.buffers.now
