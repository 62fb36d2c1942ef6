use Rattle.auth_handshake.specs.Readings.{told}
use Rattle.std.proofs.lemmas.Bool.{both_ways}
use Rattle.auth_handshake.proofs.Judging.{tells_only, not_pong_only, refused_only, right_only, differs_only}
use Rattle.auth_handshake.proofs.client.Client.pong.Goals as goal

pub returns-in_default-clause-only : goal.returns-in_default-clause-only
returns-in_default-clause-only g c = not_pong_only c.args.self.now c.args.item.now (λ says p. c.in_default.ensures.only says p)

pub returns-then-not-pong-clause-only : goal.returns-then-not-pong-clause-only
returns-then-not-pong-clause-only g c =
    let says = told c.in-Some.pong in
    refused_only c.args.self.now c.args.item.now says (tells_only c.args.item.now says c.in-Some.ensures.right c.in-Some.ensures.only) c.if-not-pong.true

pub returns-then-is_known_key-clause-only : goal.returns-then-is_known_key-clause-only
returns-then-is_known_key-clause-only g c =
    let says = told c.in-Some.pong in
    right_only c.args.self.now c.args.item.now says (tells_only c.args.item.now says c.in-Some.ensures.right c.in-Some.ensures.only) c.if-not-pong.false
    (c.is_known_key.ensures.0 c.if-is_known_key.true)

pub returns-else-is_known_key-clause-only : goal.returns-else-is_known_key-clause-only
returns-else-is_known_key-clause-only g c =
    let says = told c.in-Some.pong in
    differs_only c.args.self.now c.args.item.now says (tells_only c.args.item.now says c.in-Some.ensures.right c.in-Some.ensures.only) c.if-not-pong.false
    (λ knows. both_ways c.is_known_key.result c.if-is_known_key.false (c.is_known_key.ensures.1 knows))
