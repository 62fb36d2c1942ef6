use Rattle.std.proofs.Common.{◌≡◌, [], ◌++◌, List, ℕ}
use Rattle.relay_sockets.specs.Traffics.{Conveys}
use Rattle.tcp_courier.proofs.exchange.write_out.Given as goal

-- what was outgoing is written, but for what is left
abbrev pub invariant-loop : goal.invariant-loop
invariant-loop g l = (g.W.Wire.origin l.line.wire ≡ g.W.Wire.origin l.initial.line.wire)
    × (l.session ≡ record l.initial.session { outgoing = l.session.outgoing })
    × (sent : List ℕ) × (l.initial.session.outgoing ≡ sent ++ l.session.outgoing) × Conveys (g.W.Wire.traffic l.initial.line.wire) (g.W.Wire.traffic l.line.wire) sent []
