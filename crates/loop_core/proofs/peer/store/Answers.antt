use Rattle.std.proofs.Common.{inr, ap}
use Rattle.loop_core.specs.Waits.{Waits}
use Rattle.loop_core.proofs.peer.store.Goals as goal

pub returns-in-Ok-clause-waits : goal.returns-in-Ok-clause-waits
returns-in-Ok-clause-waits g c = inr (record { one = c.in-Ok.one; is = c.push_reserved.ensures.items }, ap (λ (w : Waits). w.awaited) c.in-Ok.ensures.waits)
