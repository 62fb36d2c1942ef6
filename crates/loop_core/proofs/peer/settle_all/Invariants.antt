use Rattle.std.proofs.Common.{◌≡◌, true, []}
use Rattle.std.specs.List.{All}
use Rattle.std.specs.Vec.Iter.{into_iter_items, into_iter_len}
use Rattle.loop_core.specs.Lanes.{NoneLater}
use Rattle.loop_core.specs.Peers.{AreAmong, BecomeInOrder, Standing, IsOwed, IsFaithful, awaited_in}
use Rattle.loop_core.proofs.peer.settle_all.Given as goal

abbrev pub invariant-loop-waiting : goal.invariant-loop-waiting
invariant-loop-waiting g l = record {
  owed : All (IsOwed l.inlet l.session.asked) (into_iter_items l.rest);
  kept : IsFaithful l.inlet l.session.asked l.session.taken l.later.items;
  lanes : l.lanes ≡ l.initial.lanes;
  rest : AreAmong (awaited_in l.fn.list.items) (into_iter_items l.rest);
  waited : AreAmong (awaited_in l.fn.list.items) l.later.items;
  ended : NoneLater l.initial.lanes.later → l.later.items ≡ [];
  order : (end : Standing) → BecomeInOrder (into_iter_items l.rest) (record { left = l.later.items; session = l.session; closing = l.is_closing }) end
      → BecomeInOrder l.fn.list.items (record { left = []; session = l.initial.session; closing = l.initial.is_closing }) end;
  closed : l.initial.is_closing ≡ true → l.is_closing ≡ true;
}

abbrev pub decreases-loop-waiting : goal.decreases-loop-waiting
decreases-loop-waiting g l = into_iter_len l.rest
