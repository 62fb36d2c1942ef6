use Rattle.std.proofs.Common.{◌≡◌, ◌+◌, find}
use Rattle.std.specs.Prelude.{drop}
use Rattle.std.specs.List.{position_from}
use Rattle.tcp_courier.proofs.courier.first_of.Given as goal

-- of the servers so far none takes a connection
abbrev pub invariant-loop-server : goal.invariant-loop-server
invariant-loop-server g l =
    let takes = g.N.Dialer.takes l.dialer in
    let rest = drop l.server-index l.servers in
    (l.place ≡ l.from + l.server-index)
    × (g.N.Dialer.is_known l.dialer → (find takes rest ≡ find takes l.servers) × (position_from takes l.place rest ≡ position_from takes l.from l.servers))
