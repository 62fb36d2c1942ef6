use Rattle.std.proofs.Common.{sym, subst}
use Rattle.std.specs.Arc.{arc_value}
use Rattle.relay_ports.specs.Leaves.{Entry}
use Rattle.loop_core.specs.Peers.{IsFaithful}
use Rattle.loop_core.proofs.peer.Peer.settle.Goals as goal

pub settle_all-later-requires : goal.settle_all-later-requires
settle_all-later-requires g c =
    let session = c.self.inside.session in
    subst (λ v. IsFaithful c.deref.result.now session.asked session.taken v.items) (sym c.replace-list.ensures.value)
    (subst (λ (e : Entry). IsFaithful e session.asked session.taken c.self.inside.waiting.items) (sym c.deref.ensures) c.self.invariant)

pub invariant_of-self : goal.invariant_of-self
invariant_of-self g c =
    let session = c.settle_all-later.new.session in
    subst (λ v. IsFaithful (arc_value c.self.inside.inlet) session.asked session.taken v.items) (sym c.replace-none.ensures.after)
    (subst (λ (e : Entry). IsFaithful e session.asked session.taken c.settle_all-later.result.items) c.deref.ensures c.settle_all-later.ensures.kept)

pub returns-clause-waited : goal.returns-clause-waited
returns-clause-waited g c = rw (c.replace-none.ensures.after, ← c.self.view_is) (rw c.replace-list.ensures.value at c.settle_all-later.ensures.waited)

pub returns-clause-ended : goal.returns-clause-ended
returns-clause-ended g c = λ none. rw c.replace-none.ensures.after (c.settle_all-later.ensures.ended none)

pub returns-clause-order : goal.returns-clause-order
returns-clause-order g c = rw (c.replace-none.ensures.after, ← c.self.view_is) (rw c.replace-list.ensures.value at c.settle_all-later.ensures.order)

pub returns-clause-closed : goal.returns-clause-closed
returns-clause-closed g c = rw (← c.self.view_is) c.settle_all-later.ensures.closed
