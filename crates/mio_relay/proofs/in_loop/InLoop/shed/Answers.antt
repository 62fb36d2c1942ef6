use Rattle.std.proofs.Common.{◌∙◌, refl}
use Rattle.mio_relay.proofs.Staying.{rests_more, rests_same, stays_more, stays_same}
use Rattle.mio_relay.proofs.Turning.{stand_on, stand_still}
use Rattle.mio_relay.proofs.in_loop.InLoop.shed.Goals as goal

pub loop-preserved : goal.loop-preserved
loop-preserved g c =
    let was = c.loop.invariant in
    record {
      stays = stays_more c.args.self.now c.loop.self c.shed_one.new.self was.stays c.shed_one.ensures.stays;
      rests = rests_more c.args.self.now c.loop.self c.shed_one.new.self was.rests c.shed_one.ensures.rests;
      stands = stand_on c.args.self.now.connections c.loop.self.connections c.shed_one.new.self.connections was.stands c.shed_one.ensures.stands;
      time = c.shed_one.ensures.time ∙ was.time;
      in_time = λ all. c.shed_one.ensures.in_time (was.in_time all);
    }

pub loop-init : goal.loop-init
loop-init g c = record {
  stays = stays_same c.args.self.now;
  rests = rests_same c.args.self.now;
  stands = stand_still _ c.args.self.now.connections refl;
  time = refl;
  in_time = λ all. all;
}
