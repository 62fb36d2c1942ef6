use Rattle.std.proofs.Common.{◌≡◌, Some, refl, sym, ap, ◌∙◌, ◌==◌, cond}
use Rattle.std.proofs.lemmas.Result.{err_from_is_err_and}
use Rattle.custody_store.specs.Places.{AreSame, closed_at}
use Rattle.relay_net.specs.Network.{place_of}
use Rattle.custody_steps.proofs.Views.{same_world, restarted_world}
use Rattle.custody_steps.proofs.world.World.restart.Goals as goal

pub returns-in_err-close-clause-answer : goal.returns-in_err-close-clause-answer
returns-in_err-close-clause-answer g c =
    let net = c.args.self.now.net.now in
    let place : place_of net c.args.relay ≡ Some c.in-Some.place = sym c.in-Some.ensures in
    let p = err_from_is_err_and c.from_residual.result c.from_residual.ensures.1 in
    let same : AreSame c.args.self.now.places c.close.new.self = record { contents = c.close.ensures.contents; closed = c.in_err-close.ensures.err } in
    rw (p.1, p.2) (rw place refl, tt, same_world c.args.self.now.places c.close.new.self same c.args.self.now.book)

pub returns-clause-answer : goal.returns-clause-answer
returns-clause-answer g c =
    let net = c.args.self.now.net.now in
    let book = c.args.self.now.book in
    let before = c.args.self.now.places in
    let place : place_of net c.args.relay ≡ Some c.in-Some.place = sym c.in-Some.ensures in (
      rw place refl,
      tt,
      rw place (restarted_world net before c.close.new.self c.restart_buffers.new.places book c.in-Some.place c.close.ensures.contents
          (λ p. c.in_ok-close.ensures.ok p ∙ ap (λ n. cond (p == c.in-Some.place) n (closed_at before p)) c.delivery_count.ensures) c.restart_buffers.ensures.contents c.restart_buffers.ensures.closed),
    )
