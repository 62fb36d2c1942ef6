use Rattle.std.proofs.Common.{ℕ, List, take, drop, sym, subst, refl, inl, inr, Ok, Err}
use Rattle.std.proofs.lemmas.Bool.{both_ways}
use Rattle.auth_handshake.specs.Ends.{IsUnderName, IsVerdict}
use Rattle.forward_core.proofs.client_handshake.take_pong.Goals as goal

pub returns-in-Err : goal.returns-in-Err
returns-in-Err g c = (
  take c.in-Some.end c.args.bytes.now,
  drop c.in-Some.end c.args.bytes.now,
  c.in-Some.ensures.1,
  inl (subst (λ (z : List ℕ). IsVerdict c.args.client.now z (Err c.in-Err.fault)) c.split_at.ensures.front c.in-Err.ensures.right),
)

pub returns-in-Ok : goal.returns-in-Ok
returns-in-Ok g c = (
  take c.in-Some.end c.args.bytes.now,
  drop c.in-Some.end c.args.bytes.now,
  c.in-Some.ensures.1,
  inr (
    refl,
    subst (λ (z : List ℕ). IsVerdict c.args.client.now z (Ok tt)) c.split_at.ensures.front c.in-Ok.ensures.right,
    subst (λ (z : List ℕ). IsUnderName z c.args.client.now.host) c.split_at.ensures.front (c.has_own_name.ensures.0 c.if-has_own_name.true),
  ),
)

pub returns-in-Ok-2 : goal.returns-in-Ok-2
returns-in-Ok-2 g c = (
  c.in-Some.ensures.0,
  c.in-Some.ensures.1,
  (
    subst (λ (z : List ℕ). IsVerdict c.args.client.now z (Ok tt)) c.split_at.ensures.front c.in-Ok.ensures.right,
    λ own. both_ways c.has_own_name.result c.if-has_own_name.false
        (c.has_own_name.ensures.1 (subst (λ (z : List ℕ). IsUnderName z c.args.client.now.host) (sym c.split_at.ensures.front) own)),
  ),
)
