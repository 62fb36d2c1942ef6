use Rattle.std.proofs.Common.{IsSome}
use Rattle.custody_store.specs.Book.{Delivery}
use Rattle.relay_net.specs.Network.{output_at}
use Rattle.custody_steps.proofs.Keeping as keeping
use Rattle.custody_steps.proofs.world.World.has_output.Goals as goal

pub returns-in-None : goal.returns-in-None
returns-in-None g c =
    let w = c.args.self.now in
    keeping.never _ (keeping.none_that w.places w.book c.args.number (λ (d : Delivery). IsSome (output_at w.net.now d.entrance.relay c.args.buffer)) c.in-None.ensures)

pub returns-in-Some : goal.returns-in-Some
returns-in-Some g c =
    let w = c.args.self.now in
    let found = c.in-Some.found.now.delivery in
    let shown = keeping.shown w.places w.book c.args.number found c.in-Some.ensures in
    let is = keeping.is_present c.output.result _ c.is_some.result c.is_some.ensures (rw c.entrance.ensures at c.output.ensures) in
    (λ yes. rw shown (is.0 yes), λ h. is.1 (rw shown at h))
