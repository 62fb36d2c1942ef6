use Rattle.std.proofs.Common.{◌≡◌}
use Rattle.tcp_courier.proofs.Going.{Greets}
use Rattle.tcp_courier.proofs.exchange.greet.Given as goal

abbrev pub invariant-loop : goal.invariant-loop
invariant-loop g l = (g.W.Wire.origin l.line.wire ≡ g.W.Wire.origin l.initial.line.wire)
    × Greets (g.W.Wire.traffic l.initial.line.wire) (g.W.Wire.traffic l.line.wire) l.initial.session l.session
