-- What is said of outputs may go to a thread.
use denote.RattleType.{RattleType}
use denote.Param.Send.{IsSend, Frees, sendable}
use Rattle.std.proofs.Crossing.{crosses}
use Rattle.std.proofs.CrossingOver as over
use Rattle.std.specs.declared.alloc.Allocator as alloc
use Rattle.relay_places.specs.contracts.row.Row as Row
use Rattle.relay_places.specs.contracts.rows.OutputRows as OutputRows

module _ (A : RattleType) (a : alloc.Ghosts A.Denot) where
  Row-send : IsSend A → Frees a a.dealloc_token → IsSend (Row.the_field A a).row
  Row-send sa f = search (crosses, over.crosses, sendable) depth 60 fits 20000

  pub OutputRows-send : IsSend A → Frees a a.dealloc_token → IsSend (OutputRows.the_field A a).row
  OutputRows-send sa f = let r = Row-send sa f in search (crosses, over.crosses, sendable) depth 60 fits 20000
