use Rattle.std.proofs.Common.{◌≡◌, refl, ◌∙◌}
use Rattle.std.proofs.lemmas.Option.{slice_get_within}
use Rattle.custody_store.proofs.Lists.{some_and}
use Rattle.custody_store.specs.Book.{Message}
use Rattle.custody_steps.specs.WorldOf.{world_of}
use Rattle.std.proofs.Common.{slice_get}
use Rattle.custody_steps.proofs.Answering.{flagged_world}
use Rattle.custody_steps.proofs.Keeping as keeping
use Rattle.custody_steps.proofs.Views.{same_world}
use Rattle.custody_steps.proofs.world.World.mark_answered.Goals as goal

pub invariant_of-self : goal.invariant_of-self
invariant_of-self g c =
    let w = c.args.self.now in
    let m = some_and (slice_get w.book.messages c.args.message) (λ (m : Message). m.sender ≡ c.args.sender) c.requires in
    let k = keeping.known_client w.net.now w.places w.book c.answer_outside.new.self (keeping.known_of w) c.args.message m.0 c.in_default.field-0 m.1 (m.2 ∙ c.in_default.is) w.book.acknowledged c.answer_outside.ensures in
    record { answers = k.answers; closed = k.closed; sent = k.sent; ending = k.ending; shown = k.shown }

pub returns-in_err-answer-clause-err : goal.returns-in_err-answer-clause-err
returns-in_err-answer-clause-err g c =
    let w = c.args.self.now in
    let t = c.in-Chunk in
    let kept = flagged_world c.make.new.self c.answer.new.self t.place t.buffer t.serial c.answer.ensures.others c.answer.ensures.chunks c.answer.ensures.sink w.book in
    keeping.at_error c.from_residual-in_err-answer.result (kept ∙ same_world w.places c.make.new.self c.make.ensures.same w.book)

pub answer_outside-requires-2 : goal.answer_outside-requires-2
answer_outside-requires-2 g c =
    let w = c.args.self.now in
    let m = some_and (slice_get w.book.messages c.args.message) (λ (m : Message). m.sender ≡ c.args.sender) c.requires in
    slice_get_within w.book.messages c.args.message m.0 m.1

pub invariant_of-self-2 : goal.invariant_of-self-2
invariant_of-self-2 g c =
    let w = c.args.self.now in
    let t = c.in-Chunk in
    let m = some_and (slice_get w.book.messages c.args.message) (λ (m : Message). m.sender ≡ c.args.sender) c.requires in
    let made = keeping.known_same w.net.now w.places c.make.new.self w.book (keeping.known_of w) c.make.ensures.same in
    let k = keeping.known_chunk w.net.now c.make.new.self c.answer.new.self w.book made t.place t.buffer t.serial c.answer.ensures.others c.in_ok-answer.ensures.ok
    c.args.message m.0 m.1 (m.2 ∙ c.in-Chunk.is) w.book.acknowledged c.answer_outside-2.new.self c.answer_outside-2.ensures in
    record { answers = k.answers; closed = k.closed; sent = k.sent; ending = k.ending; shown = k.shown }

pub returns-clause-ok : goal.returns-clause-ok
returns-clause-ok g c =
    let w = c.args.self.now in
    let t = c.in-Chunk in
    let m = some_and (slice_get w.book.messages c.args.message) (λ (m : Message). m.sender ≡ c.args.sender) c.requires in
    let kept = flagged_world c.make.new.self c.answer.new.self t.place t.buffer t.serial c.answer.ensures.others c.answer.ensures.chunks c.answer.ensures.sink w.book in
    keeping.marked_world c.answer.new.self w.book c.answer_outside-2.new.self (world_of w) c.args.message w.book.acknowledged c.answer_outside-2.ensures
    (kept ∙ same_world w.places c.make.new.self c.make.ensures.same w.book)
    ∙ rw m.1 refl
