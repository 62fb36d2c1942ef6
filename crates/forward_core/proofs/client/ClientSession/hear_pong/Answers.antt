use Rattle.std.proofs.Common.{drop, ap, sym, ◌∙◌}
use Rattle.forward_core.specs.Client.{ClientState, said}
use Rattle.forward_core.proofs.Shaking.{pong_client, pong_refused, pong_taken}
use Rattle.forward_core.proofs.client.ClientSession.hear_pong.Goals as goal

pub returns-in-Refused : goal.returns-in-Refused
returns-in-Refused g c client e =
    let view = c.self.view_is in
    pong_refused client c.in-Shaking.client c.args.self.now c.as_slice.result.now c.self.inside.outgoing c.self.inside.held c.in-Refused.fault
    (pong_client c.self.inside.phase c.self.inside.greeted c.in-Shaking.client client c.in-Shaking.is c.if-not-self.false (ap (λ (s : ClientState). s.phase) view ∙ e))
    (c.as_slice.ensures ∙ ap (λ (s : ClientState). s.held) view) (ap (λ (s : ClientState). s.outgoing) view) (ap (λ (s : ClientState). s.held) view) c.in-Refused.ensures

pub returns-in-Taken : goal.returns-in-Taken
returns-in-Taken g c client e =
    let view = c.self.view_is in
    pong_taken client c.in-Shaking.client c.args.self.now c.listen.new.self c.as_slice.result.now c.self.inside.outgoing c.drop_front.new.self c.in-Taken.n (said c.listen.result)
    (pong_client c.self.inside.phase c.self.inside.greeted c.in-Shaking.client client c.in-Shaking.is c.if-not-self.false (ap (λ (s : ClientState). s.phase) view ∙ e))
    (c.as_slice.ensures ∙ ap (λ (s : ClientState). s.held) view) (ap (λ (s : ClientState). s.outgoing) view) c.in-Taken.ensures (c.drop_front.ensures ∙ ap (drop c.in-Taken.n) (sym c.as_slice.ensures)) c.listen.ensures
