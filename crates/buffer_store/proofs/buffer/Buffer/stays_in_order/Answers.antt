use Rattle.std.proofs.Common.{ℕ, List, sym, subst}
use Rattle.std.specs.List.Sorted.{IsStrictlySortedBy}
use Rattle.std.specs.Map.{keys_of}
use Rattle.std.specs.Ordering.{nat_cmp}
use Rattle.buffer_state.specs.State.{Numbered}
use Rattle.buffer_state.specs.Slots.{AreBelow}
use Rattle.buffer_state.proofs.Rooms.{keys_chunks}
use Rattle.buffer_store.specs.Buffers.{Held}
use Rattle.buffer_store.proofs.buffer.Buffer.stays_in_order.Goals as goal

pub returns-clause-rising : goal.returns-clause-rising
returns-clause-rising g c =
    let slots = c.live.result.now.entries in
    subst (λ (b : Held g.row.D.Denot). IsStrictlySortedBy nat_cmp (keys_of b.chunks.chunks)) c.self.view_is
    (subst (λ (es : List Numbered). IsStrictlySortedBy nat_cmp (keys_of es)) c.live.ensures.chunks (subst (λ (ks : List ℕ). IsStrictlySortedBy nat_cmp ks) (sym (keys_chunks slots)) c.live.ensures.rising))

pub returns-clause-below : goal.returns-clause-below
returns-clause-below g c =
    let slots = c.live.result.now.entries in
    subst (λ (b : Held g.row.D.Denot). AreBelow b.chunks.next (keys_of b.chunks.chunks)) c.self.view_is
    (subst (λ (es : List Numbered). AreBelow c.self.inside.chunks.next (keys_of es)) c.live.ensures.chunks (subst (λ (ks : List ℕ). AreBelow c.self.inside.chunks.next ks) (sym (keys_chunks slots)) c.live.ensures.below))
