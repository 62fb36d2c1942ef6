use Rattle.mio_relay.specs.Loops.{Stays, TakesIn}
use Rattle.mio_relay.proofs.in_loop.InLoop.read_all.Given as goal

abbrev pub invariant-loop-key : goal.invariant-loop-key
invariant-loop-key g l = record {
  stays : Stays l.initial.self l.self;
  takes : TakesIn l.initial.self l.self;
}
