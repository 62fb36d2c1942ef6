use Rattle.std.proofs.Common.{◌≡◌, ◌⊎◌, sym, subst}
use Rattle.std.specs.Prelude.{Contains}
use Rattle.std.specs.Arc.{arc_value}
use Rattle.ack_receipt.specs.Reservations.{asked_of}
use Rattle.event_modes.specs.Reading.{meaning}
use Rattle.loop_core.specs.Peers.{OneMoreWaits, PeerState}
use Rattle.loop_core.proofs.Keeping.{begun_faithful, begun_more}
use Rattle.loop_core.proofs.peer.Peer.deliver.Goals as goal

pub invariant_of-self : goal.invariant_of-self
invariant_of-self g c =
    begun_faithful (arc_value c.self.inside.inlet) c.deref.result.now c.self.inside.session.asked c.self.inside.session.taken (asked_of (meaning c.args.message))
    c.self.inside.waiting.items c.begin.new.waiting.items c.deref.ensures c.self.invariant
    (subst (λ (p : PeerState). Contains p.session.asked (asked_of (meaning c.args.message))) (sym c.self.view_is) c.requires) c.begin.ensures.waits

pub returns-clause-waits : goal.returns-clause-waits
returns-clause-waits g c =
    let new = c.begin.new.waiting.items in
    subst (λ (p : PeerState). (new ≡ p.waits) ⊎ OneMoreWaits p.waits new) c.self.view_is (begun_more c.self.inside.waiting.items new _ c.begin.ensures.waits)
