use Rattle.std.proofs.Common.{◌≡◌, ◌∙◌, ap, rules}
use Rattle.custody_store.specs.Contents.{buffer_of}
use Rattle.custody_store.specs.Book.{Book}
use Rattle.custody_steps.specs.World.{initial_world}
use Rattle.custody_steps.specs.WorldFrom.{world_from}
use Rattle.custody_steps.proofs.Opening.{known_opening}
use Rattle.custody_steps.proofs.world.World.new.Goals as goal

pub returns-clause-opening : goal.returns-clause-opening
returns-clause-opening g c =
    let opening : world_from c.new.result c.new-3.result ≡ initial_world = ap (λ (book : Book). world_from c.new.result book) c.new-3.ensures
    ∙ (λ i. record initial_world { buffers = λ p b. buffer_of (c.new.ensures.contents p b i) }) in
    search (rules, opening)

pub invariant_of-result : goal.invariant_of-result
invariant_of-result g c =
    let k = known_opening c.args.net.now c.new.result c.new-3.result c.new.ensures.contents c.new.ensures.closed c.new-3.ensures in
    record { answers = k.answers; closed = k.closed; sent = k.sent; ending = k.ending; shown = k.shown }
