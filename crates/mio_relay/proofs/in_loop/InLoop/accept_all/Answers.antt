use Rattle.mio_relay.proofs.Staying.{stays_more, stays_same}
use Rattle.mio_relay.proofs.Turning.{takes_more, takes_same}
use Rattle.mio_relay.proofs.in_loop.InLoop.accept_all.Goals as goal

pub loop-place-init : goal.loop-place-init
loop-place-init g c = record { stays = stays_same c.args.self.now; takes = takes_same c.args.self.now }

pub loop-place-preserved : goal.loop-place-preserved
loop-place-preserved g c = record {
  stays = stays_more c.args.self.now c.loop-place.self c.accept_at.new.self c.loop-place.invariant.stays c.accept_at.ensures.stays;
  takes = takes_more c.args.self.now c.loop-place.self c.accept_at.new.self c.loop-place.invariant.takes c.accept_at.ensures.takes;
}
