use Rattle.std.proofs.Common.{◌≡◌, rules}
use Rattle.relay_sockets.specs.Endpoints.{WentTo}
use Rattle.tcp_courier.proofs.Going.{to_one}
use Rattle.tcp_courier.proofs.courier.first_of.Goals as goal

pub returns-in-Ok-clause-one : goal.returns-in-Ok-clause-one
returns-in-Ok-clause-one g c =
    let origin = g.N.Stream.Wire.origin c.in-Ok.stream in
    let went : WentTo c.server-item.result ≡ origin = search rules in
    to_one c.args.servers.now c.loop-server.server-index c.server-item.result origin c.loop-server-test.true c.server-item.is went
