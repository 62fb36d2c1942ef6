use Rattle.std.proofs.Common.{◌≡◌, ◌∙◌, List, ap, subst}
use Rattle.std.specs.Prelude.{ℕ, [], take}
use Rattle.relay_sockets.specs.Traffics.{Conveys}
use Rattle.mio_relay.proofs.Slots.{no_not_yes}
use Rattle.mio_relay.proofs.Writing.{written_some}
use Rattle.mio_relay.proofs.connection.Connection.write_some.Goals as goal

pub returns-in-Some-clause-written : goal.returns-in-Some-clause-written
returns-in-Some-clause-written g c =
    let all : c.outgoing.result.now ≡ c.self.inside.peer.session.outgoing = c.outgoing.ensures in
    rw (← c.self.view_is)
    (written_some
    (record { origin = g.S.Wire.origin c.self.inside.stream; came = c.self.inside.came; traffic = g.S.Wire.traffic c.self.inside.stream; peer = c.self.inside.peer; is_broken = c.self.inside.is_broken; is_blocked = c.self.inside.is_blocked; has_ended = c.self.inside.has_ended })
    (record { origin = g.S.Wire.origin c.put.new.self; came = c.self.inside.came; traffic = g.S.Wire.traffic c.put.new.self; peer = c.sent.new.self; is_broken = c.self.inside.is_broken; is_blocked = c.self.inside.is_blocked; has_ended = c.self.inside.has_ended })
    c.in-Some.n (ap (λ p. p.session.outgoing) c.sent.ensures)
    (subst (λ (l : List ℕ). Conveys (g.S.Wire.traffic c.self.inside.stream) (g.S.Wire.traffic c.put.new.self) (take c.in-Some.n l) []) all c.in-Some.ensures.bytes.1))

pub invariant_of-self : goal.invariant_of-self
invariant_of-self g c = (λ e. absurd (no_not_yes e), λ e. c.put.ensures.ended ∙ c.self.invariant.1 e)

pub invariant_of-self-in-Again : goal.invariant_of-self-in-Again
invariant_of-self-in-Again g c = (λ e. absurd (no_not_yes e), λ e. c.put.ensures.ended ∙ c.self.invariant.1 e)

pub invariant_of-self-in-Ended : goal.invariant_of-self-in-Ended
invariant_of-self-in-Ended g c = (λ e. absurd (no_not_yes e), λ e. c.put.ensures.ended ∙ c.self.invariant.1 e)
