use Rattle.std.proofs.Common.{◌≡◌, refl, sym, ◌∙◌}
use Rattle.std.proofs.lemmas.Bool.{false≢true}
use Rattle.std.proofs.lemmas.Result.{err_from_is_err_and}
use Rattle.custody_store.specs.declared.chunk.Stage.TheVariants.{Claimed}
use Rattle.relay_net.specs.Network.{address_of_server}
use Rattle.custody_steps.specs.WorldOf.{world_of}
use Rattle.custody_steps.proofs.Forwarding as forwarding
use Rattle.custody_steps.proofs.Named.{live_at}
use Rattle.custody_steps.proofs.world.World.forward.Goals as goal

pub returns-in_default-clause-answer : goal.returns-in_default-clause-answer
returns-in_default-clause-answer g c =
    let w = c.args.self.now in
    forwarding.no_chunk w.net.now (world_of w) c.args.name.now c.args.server c.in_default.ensures.none

pub returns-in_default-server-clause-answer : goal.returns-in_default-server-clause-answer
returns-in_default-server-clause-answer g c =
    let w = c.args.self.now in
    forwarding.no_server w.net.now (world_of w) c.args.name.now c.in-Some.found c.in-Some.ensures.found c.args.server c.in_default-server.ensures

pub returns-then-ne-clause-answer : goal.returns-then-ne-clause-answer
returns-then-ne-clause-answer g c =
    let w = c.args.self.now in
    forwarding.not_claimed w.net.now (world_of w) c.args.name.now c.in-Some.found c.in-Some.ensures.found c.args.server c.in-Some-server.to.now c.in-Some-server.ensures
    (λ e. false≢true (sym (rw e at c.if-ne.ensures)))

pub returns-in_err-address-clause-answer : goal.returns-in_err-address-clause-answer
returns-in_err-address-clause-answer g c =
    let w = c.args.self.now in
    let net = w.net.now in
    let found = c.in-Some.found in
    let f = c.in-Some.ensures.found in
    let to = c.in-Some-server.to.now in
    let claimed : found.look.stage ≡ Claimed = forwarding.claimed_by found.look.stage c.if-ne.ensures in
    let p = err_from_is_err_and c.from_residual.result c.from_residual.ensures.1 in
    rw (p.1, p.2) (
      forwarding.all_there net (world_of w) c.args.name.now found f c.args.server to c.in-Some-server.ensures,
      forwarding.may_go net (world_of w) c.args.name.now found f c.args.server to c.in-Some-server.ensures claimed,
      refl,
    )

pub send_on-requires : goal.send_on-requires
send_on-requires g c =
    let w = c.args.self.now in
    let claimed : c.in-Some.found.look.stage ≡ Claimed = forwarding.claimed_by c.in-Some.found.look.stage c.if-ne.ensures in
    live_at w.net.now (world_of w) c.args.name.now c.in-Some.found c.in-Some.ensures.found Claimed claimed

pub returns-in_err-send_on-clause-answer : goal.returns-in_err-send_on-clause-answer
returns-in_err-send_on-clause-answer g c =
    let w = c.args.self.now in
    let net = w.net.now in
    let found = c.in-Some.found in
    let f = c.in-Some.ensures.found in
    let to = c.in-Some-server.to.now in
    let claimed : found.look.stage ≡ Claimed = forwarding.claimed_by found.look.stage c.if-ne.ensures in
    let p = err_from_is_err_and c.from_residual-in_err-send_on.result c.from_residual-in_err-send_on.ensures.1 in
    rw (p.1, p.2) (
      forwarding.all_there net (world_of w) c.args.name.now found f c.args.server to c.in-Some-server.ensures,
      forwarding.may_go net (world_of w) c.args.name.now found f c.args.server to c.in-Some-server.ensures claimed,
      c.in_err-send_on.ensures.err,
    )

pub returns-clause-answer : goal.returns-clause-answer
returns-clause-answer g c =
    let w = c.args.self.now in
    let net = w.net.now in
    let found = c.in-Some.found in
    let f = c.in-Some.ensures.found in
    let to = c.in-Some-server.to.now in
    let claimed : found.look.stage ≡ Claimed = forwarding.claimed_by found.look.stage c.if-ne.ensures in
    let address : c.in_ok-address.address ≡ address_of_server to = c.in_ok-address.ensures ∙ (λ i. record { host = c.as_bytes.ensures.value i; port = to.port }) in (
      forwarding.all_there net (world_of w) c.args.name.now found f c.args.server to c.in-Some-server.ensures,
      forwarding.may_go net (world_of w) c.args.name.now found f c.args.server to c.in-Some-server.ensures claimed,
      forwarding.went net (world_of w) c.args.name.now found f c.args.server to c.in-Some-server.ensures (world_of c.send_on.new.self) c.in_ok-address.address address c.in_ok-send_on.ensures.ok,
    )
