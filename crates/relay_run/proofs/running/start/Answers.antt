use denote.Param.Send.{IsSend, sendable}
use Rattle.std.proofs.Crossing.{crosses}
use Rattle.relay_run.specs.contracts.flush.Pool as Pool
use Rattle.relay_run.proofs.Crossings.{Pool-send}
use Rattle.relay_run.proofs.running.start.Goals as goal

pub spawn_with-requires-send-F : goal.spawn_with-requires-send-F
spawn_with-requires-send-F g c κs within = let p : IsSend Pool.the_field.row = Pool-send in search (crosses, sendable) depth 20
