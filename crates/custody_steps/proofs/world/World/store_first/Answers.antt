use Rattle.std.proofs.Common.{refl}
use Rattle.custody_steps.proofs.Keeping as keeping
use Rattle.custody_steps.proofs.world.World.store_first.Goals as goal

pub invariant_of-self : goal.invariant_of-self
invariant_of-self g c =
    let w = c.args.self.now in
    let known = keeping.known_of w in
    let k = keeping.either c.store_first.result c.store_first.ensures.ok c.store_first.ensures.err
    (λ e. keeping.known_changed w.net.now w.places c.store_first.new.self w.book known c.args.found.place c.args.found.buffer _ e refl)
    (λ e. keeping.known_same w.net.now w.places c.store_first.new.self w.book known e) in
    record { answers = k.answers; closed = k.closed; sent = k.sent; ending = k.ending; shown = k.shown }
