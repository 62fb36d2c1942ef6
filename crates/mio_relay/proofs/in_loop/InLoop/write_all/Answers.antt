use Rattle.std.proofs.Common.{◌∙◌, refl}
use Rattle.mio_relay.specs.Connections.{HoldsFlushed}
use Rattle.mio_relay.proofs.Slots.{none_below}
use Rattle.mio_relay.proofs.Staying.{stays_more, stays_same}
use Rattle.mio_relay.proofs.Turning.{takes_more, takes_same}
use Rattle.mio_relay.proofs.in_loop.InLoop.write_all.Goals as goal

pub loop-key-init : goal.loop-key-init
loop-key-init g c = record {
  stays = stays_same c.args.self.now;
  takes = takes_same c.args.self.now;
  lanes = refl;
  settled = λ all. all;
  keys = refl;
  flushed = none_below HoldsFlushed c.args.self.now.connections;
}

pub loop-key-preserved : goal.loop-key-preserved
loop-key-preserved g c =
    let was = c.loop-key.invariant in
    record {
      stays = stays_more c.args.self.now c.loop-key.self c.write_to.new.self was.stays c.write_to.ensures.stays;
      takes = takes_more c.args.self.now c.loop-key.self c.write_to.new.self was.takes c.write_to.ensures.takes;
      lanes = c.write_to.ensures.lanes ∙ was.lanes;
      settled = λ all. c.write_to.ensures.settled (was.settled all);
      keys = c.write_to.ensures.keys ∙ was.keys;
      flushed = c.write_to.ensures.flushed was.flushed;
    }
