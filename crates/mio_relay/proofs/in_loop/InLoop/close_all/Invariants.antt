use Rattle.std.proofs.Common.{◌≡◌, length}
use Rattle.mio_relay.specs.Connections.{AreInTimeBelow}
use Rattle.mio_relay.specs.Loops.{Rests, Stays}
use Rattle.mio_relay.specs.Turning.{EachKey, MayLose}
use Rattle.mio_relay.proofs.in_loop.InLoop.close_all.Given as goal

abbrev pub invariant-loop-key : goal.invariant-loop-key
invariant-loop-key g l = record {
  stays : Stays l.initial.self l.self;
  rests : Rests l.initial.self l.self;
  loses : EachKey (MayLose l.initial.self.time) l.initial.self.connections l.self.connections;
  time : l.self.time ≡ l.initial.self.time;
  keys : length l.self.connections ≡ length l.initial.self.connections;
  in_time : AreInTimeBelow l.initial.self.time l.key l.self.connections;
}
