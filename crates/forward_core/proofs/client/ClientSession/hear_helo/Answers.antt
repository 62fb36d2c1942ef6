use Rattle.std.proofs.Common.{drop, refl, ap, sym, ◌∙◌, subst}
use Rattle.forward_core.specs.declared.client_handshake.First.{First}
use Rattle.forward_core.specs.Client.{ClientState, TakesHelo}
use Rattle.forward_core.proofs.Shaking.{helo_client, helo_taken, helo_refused}
use Rattle.forward_core.proofs.client.ClientSession.hear_helo.Goals as goal

pub returns-in-Taken-clause-reads : goal.returns-in-Taken-clause-reads
returns-in-Taken-clause-reads g c client e =
    let view = c.self.view_is in
    helo_taken client c.in-Shaking.client c.take_helo.new.client c.args.self.now _ c.as_slice.result.now c.self.inside.outgoing c.take_helo.new.outgoing c.drop_front.new.self c.in-Taken.n _
    (helo_client c.self.inside.phase c.self.inside.greeted c.in-Shaking.client client c.in-Shaking.is (ap (λ (s : ClientState). s.phase) view ∙ e))
    (c.as_slice.ensures ∙ ap (λ (s : ClientState). s.held) view) (ap (λ (s : ClientState). s.outgoing) view)
    (subst (λ (z : First). TakesHelo c.in-Shaking.client c.self.inside.outgoing c.as_slice.result.now z c.take_helo.new.client c.take_helo.new.outgoing) c.in-Taken.is c.in_ok-n.ensures.takes)
    (c.drop_front.ensures ∙ ap (drop c.in-Taken.n) (sym c.as_slice.ensures))
    (c.hear_pong.ensures c.take_helo.new.client refl)

pub returns-in-Refused-clause-reads : goal.returns-in-Refused-clause-reads
returns-in-Refused-clause-reads g c client e =
    let view = c.self.view_is in
    helo_refused client c.in-Shaking.client c.take_helo.new.client c.args.self.now c.as_slice.result.now c.self.inside.outgoing c.take_helo.new.outgoing c.self.inside.held c.in-Refused.fault
    (helo_client c.self.inside.phase c.self.inside.greeted c.in-Shaking.client client c.in-Shaking.is (ap (λ (s : ClientState). s.phase) view ∙ e))
    (c.as_slice.ensures ∙ ap (λ (s : ClientState). s.held) view) (ap (λ (s : ClientState). s.outgoing) view) (ap (λ (s : ClientState). s.held) view)
    (subst (λ (z : First). TakesHelo c.in-Shaking.client c.self.inside.outgoing c.as_slice.result.now z c.take_helo.new.client c.take_helo.new.outgoing) c.in-Refused.is c.in_ok-n.ensures.takes)
