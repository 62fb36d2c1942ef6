use Rattle.std.proofs.Common.{◌≡◌, length}
use Rattle.mio_relay.specs.Connections.{AreFlushedBelow, AreSettled}
use Rattle.mio_relay.specs.Loops.{Stays, TakesIn}
use Rattle.mio_relay.proofs.in_loop.InLoop.write_all.Given as goal

abbrev pub invariant-loop-key : goal.invariant-loop-key
invariant-loop-key g l = record {
  stays : Stays l.initial.self l.self;
  takes : TakesIn l.initial.self l.self;
  lanes : l.self.lanes ≡ l.initial.self.lanes;
  settled : AreSettled l.initial.self.connections → AreSettled l.self.connections;
  keys : length l.self.connections ≡ length l.initial.self.connections;
  flushed : AreFlushedBelow l.key l.self.connections;
}
