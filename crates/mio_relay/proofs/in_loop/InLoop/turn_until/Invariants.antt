use Rattle.std.proofs.Common.{◌≡◌, None}
use Rattle.mio_relay.specs.Loops.{Stays}
use Rattle.mio_relay.proofs.in_loop.InLoop.turn_until.Given as goal

abbrev pub invariant-loop : goal.invariant-loop
invariant-loop g l = Stays l.initial.self l.self × (l.self.fault ≡ None)
