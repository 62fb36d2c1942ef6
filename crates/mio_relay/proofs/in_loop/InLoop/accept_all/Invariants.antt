use Rattle.mio_relay.specs.Loops.{Stays, TakesIn}
use Rattle.mio_relay.proofs.in_loop.InLoop.accept_all.Given as goal

abbrev pub invariant-loop-place : goal.invariant-loop-place
invariant-loop-place g l = record {
  stays : Stays l.initial.self l.self;
  takes : TakesIn l.initial.self l.self;
}
