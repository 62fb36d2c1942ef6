use Rattle.std.proofs.Common.{◌∙◌, ap, take}
use Rattle.mio_relay.specs.Connections.{ConnectionState}
use Rattle.mio_relay.proofs.Reading.{is_received}
use Rattle.mio_relay.proofs.connection.Connection.receive_piece.Goals as goal

pub returns-clause-received : goal.returns-clause-received
returns-clause-received g c =
    is_received c.args.self.now c.read_piece-n.new.self c.heed.new.self (take c.read_piece-n.result c.read_piece-n.new.piece) c.split_at.result.0.now c.self.inside.peer
    c.receive-received.new.self c.receive-received.result c.heed.result c.read_piece-n.ensures.came
    (ap (λ (s : ConnectionState). s.traffic) c.heed.ensures.rest ∙ ap (λ (s : ConnectionState). s.traffic) c.self.view_is) c.split_at.ensures.front
    (ap (λ (s : ConnectionState). s.peer) c.self.view_is) (ap (λ (s : ConnectionState). s.peer) c.heed.ensures.rest) c.receive-received.ensures.read c.heed.ensures.lost
