use Rattle.std.proofs.Common.{◌≡◌, length}
use Rattle.loop_core.specs.Lanes.{NoneLater}
use Rattle.mio_relay.specs.Connections.{AreSettledBelow}
use Rattle.mio_relay.specs.Loops.{Stays, TakesIn}
use Rattle.mio_relay.proofs.in_loop.InLoop.settle_all.Given as goal

abbrev pub invariant-loop-key : goal.invariant-loop-key
invariant-loop-key g l = record {
  stays : Stays l.initial.self l.self;
  takes : TakesIn l.initial.self l.self;
  lanes : l.self.lanes ≡ l.initial.self.lanes;
  keys : length l.self.connections ≡ length l.initial.self.connections;
  settled : NoneLater l.initial.self.lanes.later → AreSettledBelow l.key l.self.connections;
}
