use Rattle.std.proofs.Common.{◌≡◌, ◌≤◌, ◌+◌, ◌⊎◌, true, length}
use Rattle.loop_core.specs.Lanes.{KeepsLanes}
use Rattle.mio_relay.specs.Connections.{AreReceived, IsSameConnection, MayRead}
use Rattle.mio_relay.proofs.connection.Connection.read.Given as goal

abbrev pub invariant-loop-pieces : goal.invariant-loop-pieces
invariant-loop-pieces g l = record {
  same : IsSameConnection l.initial.self l.self;
  lanes : KeepsLanes l.initial.lanes l.lanes;
  time : l.lanes.time ≡ l.initial.lanes.time;
  only : MayRead l.initial.self ⊎ (l.self ≡ l.initial.self);
  received : AreReceived l._pieces l.initial.self l.self;
  numbered : (l.numbers + length l.initial.self.peer.session.asked ≡ l.initial.numbers + length l.self.peer.session.asked) ⊎ (l.self.is_broken ≡ true);
  drawn : l.initial.numbers ≤ l.numbers;
}
