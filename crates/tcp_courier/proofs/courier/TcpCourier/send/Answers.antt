use Rattle.std.proofs.Common.{◌≡◌, rules}
use Rattle.tcp_courier.proofs.Going.{begun_bare, delivers}
use Rattle.tcp_courier.proofs.courier.TcpCourier.send.Goals as goal

pub deliver-requires-clause-bare : goal.deliver-requires-clause-bare
deliver-requires-clause-bare g c =
    let begins = c.in_ok-session.ensures in
    begun_bare c.in_ok-session.session c.args.self.now.shows begins.0 begins.2

pub returns-clause-delivers : goal.returns-clause-delivers
returns-clause-delivers g c =
    let traffic = g.N.Stream.Wire.traffic in
    let begins = c.in_ok-session.ensures in
    let own : c.self.inside.asks ≡ c.args.self.now.asks = search rules in
    delivers c.args.self.now c.args.chunk.now (traffic c.args.stream) (traffic c.deliver.new.line.wire) c.in_ok-session.session begins.0 c.args.entries.now c.self.inside.asks
    c.requires.fresh begins.1 begins.2 c.requires.count own c.in_ok-evidence.ensures.delivered
