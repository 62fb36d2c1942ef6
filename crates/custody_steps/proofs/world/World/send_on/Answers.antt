use Rattle.std.proofs.Common.{◌≡◌, false, true, Some, refl, ap, ◌∙◌}
use Rattle.custody_store.specs.Buffers.{Chunk}
use Rattle.custody_store.specs.Contents.{parts_of}
use Rattle.custody_store.specs.Copies.{copied_parts}
use Rattle.custody_store.specs.declared.chunk.Stage.TheVariants.{Claimed}
use Rattle.custody_store.proofs.Lists.{some_and}
use Rattle.custody_store.specs.Book.{Message}
use Rattle.custody_store.specs.declared.sender.Sender.TheVariants as sender
use Rattle.step_lines.specs.Texts.{texts_of}
use Rattle.custody_steps.specs.Found.{chunk_of, with_found}
use Rattle.custody_steps.specs.WorldOf.{world_of}
use Rattle.custody_steps.proofs.Keeping as keeping
use Rattle.custody_steps.proofs.Views.{live_there, live_within, chunk_world}
use Rattle.custody_steps.proofs.world.World.send_on.Goals as goal

pub invariant_of-self : goal.invariant_of-self
invariant_of-self g c =
    let w = c.args.self.now in
    let k = keeping.known_again w.net.now w.places w.book c.send.new.self (keeping.known_of w) c.in_err-send.ensures.err in
    record { answers = k.answers; closed = k.closed; sent = k.sent; ending = k.ending; shown = k.shown }

pub mark_forwarded-requires-clause-there : goal.mark_forwarded-requires-clause-there
mark_forwarded-requires-clause-there g c =
    let f = c.args.found in
    live_there c.args.self.now.places f.place f.buffer f.serial (λ (chunk : Chunk). chunk.stage ≡ Claimed) c.requires

pub invariant_of-self-2 : goal.invariant_of-self-2
invariant_of-self-2 g c =
    let w = c.args.self.now in
    let f = c.args.found in
    let m : Message = record { sender = sender.Chunk f.place f.buffer f.serial; address = c.args.address; tag = c.in-Some.copied.tag; entries = texts_of c.as_slice.result.now; acknowledged = false } in
    let sent = keeping.known_sent w.net.now w.places w.book c.send.new.self (keeping.known_of w) m refl c.in_ok-send.ensures.ok in
    let k = keeping.known_changed w.net.now w.places c.mark_forwarded.new.self c.send.new.self sent f.place f.buffer _ c.mark_forwarded.ensures refl in
    record { answers = k.answers; closed = k.closed; sent = k.sent; ending = k.ending; shown = k.shown }

pub returns-clause-ok : goal.returns-clause-ok
returns-clause-ok g c =
    let w = c.args.self.now in
    let f = c.args.found in
    let live = some_and (chunk_of (world_of w) f) (λ (chunk : Chunk). chunk.stage ≡ Claimed) c.requires in
    let parts : Some (copied_parts c.in-Some.copied) ≡ Some (parts_of live.0) = rw (c.in-Some.is, live.1) at c.in_ok-copied.ensures in
    let parts_are : copied_parts c.in-Some.copied ≡ parts_of live.0 = cc in
    let m : Message = record { sender = sender.Chunk f.place f.buffer f.serial; address = c.args.address; tag = c.in-Some.copied.tag; entries = texts_of c.as_slice.result.now; acknowledged = false } in
    let x : Message = record { sender = sender.Chunk f.place f.buffer f.serial; address = c.args.address; tag = live.0.tag; entries = live.0.entries; acknowledged = false } in
    let same : m ≡ x = λ i. record {
      sender = sender.Chunk f.place f.buffer f.serial;
      address = c.args.address;
      tag = (parts_are i).tag;
      entries = (ap texts_of c.as_slice.ensures.value ∙ ap (λ p. p.entries) parts_are) i;
      acknowledged = false;
    } in
    let within = live_within w.places f.place f.buffer f.serial (λ (chunk : Chunk). chunk.stage ≡ Claimed) c.requires in
    rw live.1 (keeping.sent_world c.mark_forwarded.new.self w.book c.send.new.self
    (with_found (world_of w) f (λ (chunk : Chunk). Some (record chunk { forwarded = true }))) m x c.in_ok-send.ensures.ok same
    (chunk_world w.places c.mark_forwarded.new.self w.book f (λ (chunk : Chunk). Some (record chunk { forwarded = true })) within c.mark_forwarded.ensures))
