use Rattle.std.proofs.Common.{refl, ap, ◌∙◌}
use Rattle.auth_handshake.specs.declared.answers.HandshakeFault.TheVariants.{NotPing, WrongDigest}
use Rattle.auth_handshake.specs.declared.answers.Ping.TheVariants.{Passed, Refused}
use Rattle.auth_handshake.specs.Readings.{asked}
use Rattle.auth_handshake.specs.Written.{refusal_bytes, pong_bytes}
use Rattle.auth_handshake.specs.Ends.{ServerEnd, server_digest}
use Rattle.std.specs.Prelude.{codes}
use Rattle.std.proofs.lemmas.Bool.{both_ways}
use Rattle.auth_handshake.proofs.Judging.{says_only, not_ping_only, wrong_only, passed_only, on_err_of, pong_full}
use Rattle.auth_handshake.proofs.server.Server.ping.Goals as goal

pub returns-in_default-clause-only : goal.returns-in_default-clause-only
returns-in_default-clause-only g c = not_ping_only c.args.self.now c.args.item.now (λ says p. c.in_default.ensures.only says p)

pub returns-in_err-put_refusal-clause-full : goal.returns-in_err-put_refusal-clause-full
returns-in_err-put_refusal-clause-full g c = on_err_of c.from_residual.result
    (Refused NotPing, refusal_bytes (codes "invalid ping"), ((λ says p. c.in_default.ensures.only says p), refl), c.in_err-put_refusal.ensures.full)

pub returns-then-not-is_shown_key-clause-only : goal.returns-then-not-is_shown_key-clause-only
returns-then-not-is_shown_key-clause-only g c =
    let says = asked c.in-Some.ping in
    wrong_only c.args.self.now c.args.item.now says (says_only c.args.item.now says c.in-Some.ensures.right c.in-Some.ensures.only)
    (λ shows. both_ways c.is_shown_key.result c.if-not-is_shown_key.true (c.is_shown_key.ensures.1 shows))

pub returns-in_err-put_refusal-2-clause-full : goal.returns-in_err-put_refusal-2-clause-full
returns-in_err-put_refusal-2-clause-full g c = on_err_of c.from_residual-in_err-put_refusal-2.result (
  Refused WrongDigest,
  refusal_bytes (codes "shared_key mismatch"),
  (asked c.in-Some.ping, c.in-Some.ensures.right, (λ shows. both_ways c.is_shown_key.result c.if-not-is_shown_key.true (c.is_shown_key.ensures.1 shows)), refl),
  c.in_err-put_refusal-2.ensures.full,
)

pub returns-clause-only : goal.returns-clause-only
returns-clause-only g c =
    let says = asked c.in-Some.ping in
    passed_only c.args.self.now c.args.item.now says (says_only c.args.item.now says c.in-Some.ensures.right c.in-Some.ensures.only)
    (c.is_shown_key.ensures.0 c.if-not-is_shown_key.false)

pub returns-in_err-put_pong-clause-full : goal.returns-in_err-put_pong-clause-full
returns-in_err-put_pong-clause-full g c =
    let says = asked c.in-Some.ping in
    on_err_of c.from_residual-in_err-put_pong.result (
      Passed,
      pong_bytes c.args.self.now.host (server_digest c.args.self.now says),
      (says, c.in-Some.ensures.right, c.is_shown_key.ensures.0 c.if-not-is_shown_key.false, refl),
      pong_full _ _ c.deref.result.now c.args.self.now.host c.digest_for.result (server_digest c.args.self.now says)
          (c.deref.ensures.value ∙ ap (λ (s : ServerEnd). s.host) c.self.view_is) c.digest_for.ensures c.in_err-put_pong.ensures.full,
    )

pub returns-then-not-is_shown_key-clause-right : goal.returns-then-not-is_shown_key-clause-right
returns-then-not-is_shown_key-clause-right g c = (
  refusal_bytes (codes "shared_key mismatch"),
  (asked c.in-Some.ping, c.in-Some.ensures.right, (λ shows. both_ways c.is_shown_key.result c.if-not-is_shown_key.true (c.is_shown_key.ensures.1 shows)), refl),
  c.in_ok-put_refusal-2.ensures.ok,
)
