use Rattle.std.proofs.Common.{drop, ap, sym, ◌∙◌}
use Rattle.forward_core.specs.Client.{ClientState, awaited, phase_if, phase_of, said}
use Rattle.forward_core.proofs.Shaking.{listened}
use Rattle.forward_core.proofs.client.ClientSession.listen.Goals as goal

pub returns : goal.returns
returns g c =
    let view = c.self.view_is in
    let greeted = c.self.inside.greeted in
    let says = said c.listen_to-n.result.1 in
    listened c.chunk.result c.args.self.now c.as_slice.result.now c.listen_to-n.result.0 says (phase_of c.end_if.new.self greeted) c.drop_front.new.self c.self.inside.outgoing c.listen_to-n.ensures
    (sym (c.as_slice.ensures ∙ ap (λ (s : ClientState). s.held) view))
    (c.chunk.ensures greeted ∙ ap (λ (s : ClientState). awaited s.phase) view)
    (c.end_if.ensures.ends greeted ∙ ap (λ (s : ClientState). phase_if says s.phase) view)
    (c.drop_front.ensures ∙ ap (drop c.listen_to-n.result.0) (sym c.as_slice.ensures))
    (ap (λ (s : ClientState). s.outgoing) view)
