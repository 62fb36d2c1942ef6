use Rattle.std.proofs.Common.{◌≡◌, ◌≤◌, ◌+◌, ◌||◌, true, length, map}
use Rattle.std.specs.List.{All}
use Rattle.forward_core.specs.Demands.{asked_in, wanted}
use Rattle.forward_core.specs.Server.{IsAskedIn}
use Rattle.std.specs.Vec.Iter.{into_iter_items, into_iter_len}
use Rattle.loop_core.specs.Lanes.{KeepsLanes}
use Rattle.loop_core.specs.Peers.{GoOnWaiting, wants_close}
use Rattle.loop_core.proofs.peer.Peer.deliver_all.Given as goal

abbrev pub invariant-loop-demand : goal.invariant-loop-demand
invariant-loop-demand g l = record {
  asked : All (λ demand. IsAskedIn l.self.session.asked (wanted demand)) (into_iter_items l.rest);
  entry : l.self.entry ≡ l.initial.self.entry;
  session : l.self.session ≡ l.initial.self.session;
  lanes : KeepsLanes l.initial.lanes l.lanes;
  time : l.lanes.time ≡ l.initial.lanes.time;
  numbered : l.numbers + length (asked_in (map wanted (into_iter_items l.rest))) ≡ l.initial.numbers + length (asked_in (map wanted l.fn.demands.items));
  drawn : l.initial.numbers ≤ l.numbers;
  closes : (l.self.closing || wants_close (map wanted (into_iter_items l.rest))) ≡ (l.initial.self.closing || wants_close (map wanted l.fn.demands.items));
  closed : l.initial.self.closing ≡ true → l.self.closing ≡ true;
  waits : GoOnWaiting l.initial.self.waits l.self.waits;
}

abbrev pub decreases-loop-demand : goal.decreases-loop-demand
decreases-loop-demand g l = into_iter_len l.rest
