use Rattle.std.proofs.Common.{◌∙◌, refl, subst, sym}
use Rattle.loop_core.specs.Lanes.{LanesState, NoneLater}
use Rattle.mio_relay.specs.Connections.{HoldsNone}
use Rattle.mio_relay.proofs.Slots.{none_below}
use Rattle.mio_relay.proofs.Staying.{stays_more, stays_same}
use Rattle.mio_relay.proofs.Turning.{takes_more, takes_same}
use Rattle.mio_relay.proofs.in_loop.InLoop.settle_all.Goals as goal

pub loop-key-init : goal.loop-key-init
loop-key-init g c = record {
  stays = stays_same c.args.self.now;
  takes = takes_same c.args.self.now;
  lanes = refl;
  keys = refl;
  settled = λ none. none_below HoldsNone c.args.self.now.connections;
}

pub loop-key-preserved : goal.loop-key-preserved
loop-key-preserved g c =
    let was = c.loop-key.invariant in
    record {
      stays = stays_more c.args.self.now c.loop-key.self c.settle_at.new.self was.stays c.settle_at.ensures.stays;
      takes = takes_more c.args.self.now c.loop-key.self c.settle_at.new.self was.takes c.settle_at.ensures.takes;
      lanes = c.settle_at.ensures.lanes ∙ was.lanes;
      keys = c.settle_at.ensures.keys ∙ was.keys;
      settled = λ none. c.settle_at.ensures.settled (subst (λ (l : LanesState _). NoneLater l.later) (sym was.lanes) none) (was.settled none);
    }
