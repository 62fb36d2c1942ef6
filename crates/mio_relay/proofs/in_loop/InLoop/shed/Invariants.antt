use Rattle.std.proofs.Common.{◌≡◌}
use Rattle.mio_relay.specs.Connections.{AreInTime}
use Rattle.mio_relay.specs.Loops.{Rests, Stays}
use Rattle.mio_relay.specs.Turning.{StandOn}
use Rattle.mio_relay.proofs.in_loop.InLoop.shed.Given as goal

abbrev pub invariant-loop : goal.invariant-loop
invariant-loop g l = record {
  stays : Stays l.initial.self l.self;
  rests : Rests l.initial.self l.self;
  stands : StandOn l.initial.self.connections l.self.connections;
  time : l.self.time ≡ l.initial.self.time;
  in_time : AreInTime l.initial.self.time l.initial.self.connections → AreInTime l.self.time l.self.connections;
}
