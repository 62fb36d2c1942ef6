use Rattle.std.proofs.Common.{ℕ, ◌++◌, List, drop, ap, ◌∙◌, arith}
use Rattle.std.proofs.lemmas.List.{drop-append-le}
use Rattle.std.proofs.lemmas.Result.{on_ok_weaker}
use Rattle.auth_handshake.specs.Written.{ping_bytes}
use Rattle.auth_handshake.specs.Ends.{client_digest}
use Rattle.forward_core.proofs.outbox.Outbox.helo.Goals as goal

pub returns-clause-ok : goal.returns-clause-ok
returns-clause-ok g c = on_ok_weaker c.helo.result
    (λ p. (
      p.0,
      p.1,
      p.2,
      ap (drop c.self.inside.start) p.3
          ∙ drop-append-le c.self.inside.start c.self.inside.bytes.items (ping_bytes c.args.client.now.host c.args.client.now.salt (client_digest c.args.client.now p.0)) (omega (arith, c.self.invariant, c.self.inside.bytes.ok))
          ∙ ap (λ (z : List ℕ). z ++ ping_bytes c.args.client.now.host c.args.client.now.salt (client_digest c.args.client.now p.0)) c.self.view_is,
    ))
    c.helo.ensures.ok
