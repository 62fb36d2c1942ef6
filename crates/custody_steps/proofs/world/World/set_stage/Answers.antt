use Rattle.std.proofs.Common.{refl}
use Rattle.custody_steps.proofs.Keeping as keeping
use Rattle.custody_steps.proofs.Views.{chunk_world, is_within, on_ok}
use Rattle.custody_steps.proofs.world.World.set_stage.Goals as goal

pub returns-clause-ok : goal.returns-clause-ok
returns-clause-ok g c = on_ok c.restage.result _ _ c.restage.ensures.ok
    (λ is. chunk_world c.args.self.now.places c.restage.new.self c.args.self.now.book c.args.found _ (is_within _ _ c.requires.live) is)

pub invariant_of-self : goal.invariant_of-self
invariant_of-self g c =
    let w = c.args.self.now in
    let known = keeping.known_of w in
    let k = keeping.either c.restage.result c.restage.ensures.ok c.restage.ensures.err
    (λ e. keeping.known_changed w.net.now w.places c.restage.new.self w.book known c.args.found.place c.args.found.buffer _ e refl)
    (λ e. keeping.known_same w.net.now w.places c.restage.new.self w.book known e) in
    record { answers = k.answers; closed = k.closed; sent = k.sent; ending = k.ending; shown = k.shown }
