use Rattle.mio_relay.proofs.Telling.{told}
use Rattle.mio_relay.proofs.in_loop.InLoop.run.Goals as goal

pub returns : goal.returns
returns g c =
    told c.args.self.lanes.fault c.go_on-end.new.self.lanes.fault c.go_on-end.result c.end.result c.go_on-end.ensures.stays.lanes.fault c.end.ensures
