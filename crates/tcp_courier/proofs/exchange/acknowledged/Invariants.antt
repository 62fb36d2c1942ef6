use Rattle.std.proofs.Common.{◌≡◌, Some}
use Rattle.event_modes.specs.declared.chunk_id.ChunkId.{ChunkId}
use Rattle.forward_core.specs.Client.{HasSent}
use Rattle.tcp_courier.proofs.Going.{AwaitsOn}
use Rattle.tcp_courier.proofs.exchange.acknowledged.Given as goal

abbrev pub invariant-loop : goal.invariant-loop
invariant-loop g l = (g.W.Wire.origin l.line.wire ≡ g.W.Wire.origin l.initial.line.wire)
    × ((id : ChunkId) → l.initial.session.phase ≡ HasSent (Some id)
    → AwaitsOn (g.W.Wire.traffic l.initial.line.wire) (g.W.Wire.traffic l.line.wire) l.initial.session l.session (Some id))
