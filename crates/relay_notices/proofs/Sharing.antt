-- What tells may be used by several threads.
use denote.RattleType.{RattleType}
use denote.Param.Send.{IsSend, IsSync, Frees, sendable}
use Rattle.std.proofs.Crossing.{crosses}
use Rattle.std.proofs.CrossingOver as over
use Rattle.std.specs.declared.alloc.Allocator as alloc
use Rattle.relay_notices.specs.contracts.limiter.Limiter as Limiter
use Rattle.relay_notices.specs.contracts.notices.Notices as Notices
use Rattle.relay_notices.specs.contracts.notices.Teller as Teller

module _ (A : RattleType) (a : alloc.Ghosts A.Denot) where
  Limiter-send : IsSend A → Frees a a.dealloc_token → IsSend (Limiter.the_field A a).row
  Limiter-send sa f = search (crosses, over.crosses, sendable) depth 60 fits 20000

  pub Notices-send : IsSend A → Frees a a.dealloc_token → IsSend (Notices.the_field A a).row
  Notices-send sa f = let l = Limiter-send sa f in search (crosses, over.crosses, sendable) depth 20

  pub Notices-sync : IsSend A → IsSync A → Frees a a.dealloc_token → IsSync (Notices.the_field A a).row
  Notices-sync sa ya f = let l = Limiter-send sa f in search (crosses, over.crosses, sendable) depth 20

  pub Teller-send : IsSend A → IsSync A → Frees a a.dealloc_token → IsSend (Teller.the_field A a).row
  Teller-send sa ya f = let n = Notices-send sa f in let m = Notices-sync sa ya f in search (crosses, over.crosses, sendable) depth 20

  pub Teller-sync : IsSend A → IsSync A → Frees a a.dealloc_token → IsSync (Teller.the_field A a).row
  Teller-sync sa ya f = let n = Notices-send sa f in let m = Notices-sync sa ya f in search (crosses, over.crosses, sendable) depth 20
