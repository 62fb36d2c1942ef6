use Rattle.std.proofs.Common.{◌≡◌, [], ◌++◌, slice_get, ◌∙◌}
use Rattle.std.specs.Option.{option_map_or}
use Rattle.custody_store.proofs.Lists.{some_and}
use Rattle.custody_store.specs.Book.{Message, events_told}
use Rattle.custody_steps.proofs.Keeping as keeping
use Rattle.custody_steps.proofs.world.World.answer.Goals as goal

pub invariant_of-self : goal.invariant_of-self
invariant_of-self g c =
    let w = c.args.self.now in
    let m = some_and (slice_get w.book.messages c.args.message) (λ (m : Message). m.sender ≡ c.args.sender) c.requires in
    let known = keeping.known_of w in
    let k = keeping.either c.answer.result c.answer.ensures.ok c.answer.ensures.err
    (λ e. keeping.known_client w.net.now w.places w.book c.answer.new.self known c.args.message m.0 c.in-Client.number m.1 (m.2 ∙ c.in-Client.is)
    (w.book.acknowledged ++ option_map_or events_told (slice_get w.book.messages c.args.message) []) e)
    (λ e. keeping.known_again w.net.now w.places w.book c.answer.new.self known e) in
    record { answers = k.answers; closed = k.closed; sent = k.sent; ending = k.ending; shown = k.shown }
