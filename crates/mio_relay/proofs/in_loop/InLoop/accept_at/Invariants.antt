use Rattle.mio_relay.specs.Loops.{Stays, TakesIn}
use Rattle.mio_relay.proofs.in_loop.InLoop.accept_at.Given as goal

abbrev pub invariant-loop : goal.invariant-loop
invariant-loop g l = record {
  stays : Stays l.initial.self l.self;
  takes : TakesIn l.initial.self l.self;
}
