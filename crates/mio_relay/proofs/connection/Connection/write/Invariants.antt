use Rattle.std.proofs.Common.{◌≡◌}
use Rattle.mio_relay.specs.Connections.{IsSameConnection, IsWrittenOn}
use Rattle.mio_relay.proofs.connection.Connection.write.Given as goal

abbrev pub invariant-loop : goal.invariant-loop
invariant-loop g l = record {
  same : IsSameConnection l.initial.self l.self;
  waits : l.self.peer.waits ≡ l.initial.self.peer.waits;
  written : IsWrittenOn l.initial.self l.self;
}
