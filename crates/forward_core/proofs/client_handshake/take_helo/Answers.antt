use Rattle.std.proofs.Common.{ℕ, List, take, drop, subst, ap, ◌∙◌, Err}
use Rattle.auth_handshake.specs.Messages.{IsHelo}
use Rattle.forward_core.proofs.Shaking.{no_helo}
use Rattle.forward_core.proofs.client_handshake.take_helo.Goals as goal

pub returns-in-Err-Fault-clause-takes : goal.returns-in-Err-Fault-clause-takes
returns-in-Err-Fault-clause-takes g c =
    let n = no_helo c.helo.result c.in-Err-Fault.fault ((nonce : List ℕ) → IsHelo c.split_at.result.0.now nonce → ⊥) (c.in-Err-Fault.is ∙ ap Err c.in-Err-Fault.field-0-is) c.helo.ensures.only c.helo.ensures.not_helo in (
      n.0,
      (
        take c.in-Some.end c.args.bytes.now,
        drop c.in-Some.end c.args.bytes.now,
        c.in-Some.ensures.1,
        subst (λ (z : List ℕ). (nonce : List ℕ) → IsHelo z nonce → ⊥) c.split_at.ensures.front n.1,
      ),
      c.in-Err-Fault.ensures.client,
      c.in-Err-Fault.ensures.err,
    )
