use Rattle.std.proofs.Common.{◌∙◌, ◌+◌, ℕ, ap, arith, length, refl, subst}
use Rattle.mio_relay.specs.Connections.{AreInTimeBelow, HoldsInTime}
use Rattle.mio_relay.specs.Loops.{LoopState}
use Rattle.mio_relay.specs.Turning.{EachKey, MayLose}
use Rattle.mio_relay.proofs.Slots.{all_in_time, none_below}
use Rattle.mio_relay.proofs.Staying.{rests_more, rests_same, stays_more, stays_same}
use Rattle.mio_relay.proofs.Turning.{lose_none, lose_on}
use Rattle.mio_relay.proofs.in_loop.InLoop.close_all.Goals as goal

pub loop-key-preserved : goal.loop-key-preserved
loop-key-preserved g c =
    let was = c.loop-key.invariant in
    record {
      stays = stays_more c.args.self.now c.loop-key.self c.close.new.self was.stays c.close.ensures.stays;
      rests = rests_more c.args.self.now c.loop-key.self c.close.new.self was.rests c.close.ensures.rests;
      loses =
          lose_on c.args.self.now.time c.args.self.now.connections c.loop-key.self.connections c.close.new.self.connections was.loses
          (subst (λ (t : ℕ). EachKey (MayLose t) c.loop-key.self.connections c.close.new.self.connections) was.time c.close.ensures.loses);
      time = c.close.ensures.time ∙ was.time;
      keys = c.close.ensures.keys ∙ was.keys;
      in_time =
          subst (λ (t : ℕ). AreInTimeBelow t c.loop-key.key c.loop-key.self.connections → AreInTimeBelow t (c.loop-key.key + 1) c.close.new.self.connections) was.time
          c.close.ensures.in_time was.in_time;
    }

pub loop-key-init : goal.loop-key-init
loop-key-init g c = record {
  stays = stays_same c.args.self.now;
  rests = rests_same c.args.self.now;
  loses = lose_none c.args.self.now.time c.args.self.now.connections c.args.self.now.connections refl;
  time = refl;
  keys = refl;
  in_time = none_below (HoldsInTime c.args.self.now.time) c.args.self.now.connections;
}

pub returns-clause-in_time : goal.returns-clause-in_time
returns-clause-in_time g c =
    all_in_time c.args.self.now.time c.loop-key.self.connections c.loop-key.key
    (omega (arith, c.loop-key.invariant.keys, c.key_end-key-end.ensures, ap (λ (l : LoopState _). length l.connections) c.self.view_is, c.loop-key-test.false))
    c.loop-key.invariant.in_time
