use Rattle.mio_relay.proofs.Staying.{stays_more, stays_same}
use Rattle.mio_relay.proofs.Turning.{takes_more, takes_same}
use Rattle.mio_relay.proofs.in_loop.InLoop.read_all.Goals as goal

pub loop-key-init : goal.loop-key-init
loop-key-init g c = record { stays = stays_same c.args.self.now; takes = takes_same c.args.self.now }

pub loop-key-preserved : goal.loop-key-preserved
loop-key-preserved g c = record {
  stays = stays_more c.args.self.now c.loop-key.self c.read_from.new.self c.loop-key.invariant.stays c.read_from.ensures.stays;
  takes = takes_more c.args.self.now c.loop-key.self c.read_from.new.self c.loop-key.invariant.takes c.read_from.ensures.takes;
}

pub returns-in_err-read_from-clause-stays : goal.returns-in_err-read_from-clause-stays
returns-in_err-read_from-clause-stays g c = stays_more c.args.self.now c.loop-key.self c.read_from.new.self c.loop-key.invariant.stays c.read_from.ensures.stays

pub returns-in_err-read_from-clause-takes : goal.returns-in_err-read_from-clause-takes
returns-in_err-read_from-clause-takes g c = takes_more c.args.self.now c.loop-key.self c.read_from.new.self c.loop-key.invariant.takes c.read_from.ensures.takes
