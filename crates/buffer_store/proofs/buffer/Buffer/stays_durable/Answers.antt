use Rattle.std.proofs.Common.{subst}
use Rattle.buffer_store.specs.Buffers.{Held}
use Rattle.buffer_store.specs.Durability.{BeganWell, IsDurable}
use Rattle.buffer_store.proofs.buffer.Buffer.stays_durable.Goals as goal

pub returns : goal.returns
returns g c =
    subst (λ (b : Held g.row.D.Denot). BeganWell g.D.Dir.is_honest g.D.Dir.history b → IsDurable g.D.Dir.is_honest g.D.Dir.history b) c.self.view_is c.self.invariant.durable
