use Rattle.mio_relay.proofs.Staying.{stays_more, stays_same}
use Rattle.mio_relay.proofs.Turning.{takes_more, takes_same}
use Rattle.mio_relay.proofs.in_loop.InLoop.accept_at.Goals as goal

pub returns-then-not-accept_one-clause-stays : goal.returns-then-not-accept_one-clause-stays
returns-then-not-accept_one-clause-stays g c = stays_more c.args.self.now c.loop.self c.accept_one.new.self c.loop.invariant.stays c.accept_one.ensures.stays

pub returns-then-not-accept_one-clause-takes : goal.returns-then-not-accept_one-clause-takes
returns-then-not-accept_one-clause-takes g c = takes_more c.args.self.now c.loop.self c.accept_one.new.self c.loop.invariant.takes c.accept_one.ensures.takes

pub loop-preserved : goal.loop-preserved
loop-preserved g c = record {
  stays = stays_more c.args.self.now c.loop.self c.accept_one.new.self c.loop.invariant.stays c.accept_one.ensures.stays;
  takes = takes_more c.args.self.now c.loop.self c.accept_one.new.self c.loop.invariant.takes c.accept_one.ensures.takes;
}

pub loop-init : goal.loop-init
loop-init g c = record { stays = stays_same c.args.self.now; takes = takes_same c.args.self.now }
