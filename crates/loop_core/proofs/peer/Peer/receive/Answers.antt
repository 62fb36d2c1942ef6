use Rattle.std.proofs.Common.{◌≡◌, ◌∙◌, ◌+◌, ◌⊎◌, inl, inr, length, map, ap, subst}
use Rattle.std.specs.Prelude.{OnErr, OnOk}
use Rattle.std.specs.Arc.{arc_value}
use Rattle.forward_core.specs.Demands.{wanted}
use Rattle.forward_core.specs.Server.{Over}
use Rattle.loop_core.specs.Peers.{IsRead, PeerState}
use Rattle.loop_core.proofs.Keeping.{closes_on, fed, has_read, met_before, numbered_on, on_err, on_ok, stays_waiting}
use Rattle.loop_core.proofs.peer.Peer.receive.Goals as goal

pub invariant_of-self : goal.invariant_of-self
invariant_of-self g c =
    let r = c.in-Ok.ensures.reads in
    fed (arc_value c.self.inside.inlet) c.self.inside.session c.feed.new.self r.0 c.self.inside.waiting.items r.2 c.self.invariant

pub returns-in-Err-Memory-clause-waits : goal.returns-in-Err-Memory-clause-waits
returns-in-Err-Memory-clause-waits g c = stays_waiting _ _ (ap (λ (p : PeerState). p.waits) c.self.view_is)

pub returns-in-Err-Fault-clause-read : goal.returns-in-Err-Fault-clause-read
returns-in-Err-Fault-clause-read g c =
    subst (λ (p : PeerState). IsRead c.args.piece.now p.session c.feed.new.self ⊎ ((p.session.phase ≡ Over) × (c.feed.new.self ≡ p.session))) c.self.view_is
    (inr (met_before c.in-Err-Fault.field-0 c.in-Err-Fault.field-0-0 c.self.inside.session.phase c.in-Err-Fault.field-0-is c.in-Err-Fault.ensures.only c.in-Err-Fault.ensures.closed.0, c.in-Err-Fault.ensures.err))

pub returns-in-Err-Fault-clause-waits : goal.returns-in-Err-Fault-clause-waits
returns-in-Err-Fault-clause-waits g c = stays_waiting _ _ (ap (λ (p : PeerState). p.waits) c.self.view_is)

pub returns-clause-read : goal.returns-clause-read
returns-clause-read g c =
    let r = c.in-Ok.ensures.reads in
    let end = c.deliver_all.new.self.session in
    on_ok c.deliver_all.result _
    (subst (λ (p : PeerState). IsRead c.args.piece.now p.session end ⊎ ((p.session.phase ≡ Over) × (end ≡ p.session))) c.self.view_is
    (inl (has_read c.args.piece.now c.self.inside.session c.feed.new.self end r.0 r.1 r.2 c.deliver_all.ensures.session)))

pub returns-clause-err : goal.returns-clause-err
returns-clause-err g c =
    let r = c.in-Ok.ensures.reads in
    let end = c.deliver_all.new.self.session in
    on_err c.deliver_all.result _
    (subst (λ (p : PeerState). (end ≡ p.session) ⊎ IsRead c.args.piece.now p.session end) c.self.view_is
    (inr (has_read c.args.piece.now c.self.inside.session c.feed.new.self end r.0 r.1 r.2 c.deliver_all.ensures.session)))

pub returns-clause-numbered : goal.returns-clause-numbered
returns-clause-numbered g c =
    let r = c.in-Ok.ensures.reads in
    let end = c.deliver_all.new.self.session in
    subst (λ (p : PeerState). OnOk c.deliver_all.result (c.deliver_all.new.numbers + length p.session.asked ≡ c.args.numbers.now + length end.asked)) c.self.view_is
    (numbered_on c.deliver_all.result c.args.numbers.now c.deliver_all.new.numbers c.self.inside.session c.feed.new.self end r.0 (map wanted c.in-Ok.demands.items)
    c.deliver_all.ensures.numbered r.3 r.2 c.deliver_all.ensures.session)

pub returns-clause-closes : goal.returns-clause-closes
returns-clause-closes g c =
    let r = c.in-Ok.ensures.reads in
    closes_on c.deliver_all.result c.self.inside.session c.feed.new.self c.deliver_all.new.self.session r.0 c.args.piece.now (map wanted c.in-Ok.demands.items) c.self.inside.is_closing
    c.deliver_all.new.self.closing c.deliver_all.ensures.closes r.3 r.1 r.2 c.deliver_all.ensures.session

pub returns-clause-closed : goal.returns-clause-closed
returns-clause-closed g c = λ was. c.deliver_all.ensures.closed (ap (λ (p : PeerState). p.closing) c.self.view_is ∙ was)
