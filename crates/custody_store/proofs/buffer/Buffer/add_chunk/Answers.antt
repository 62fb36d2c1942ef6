use Rattle.std.proofs.Common.{length, refl}
use Rattle.step_lines.specs.Texts.{texts_of}
use Rattle.custody_store.specs.Contents.{new_chunk}
use Rattle.custody_store.proofs.Slots.{sound-added, contents_from-added}
use Rattle.custody_store.proofs.buffer.Buffer.add_chunk.Goals as goal

pub invariant_of-self-2 : goal.invariant_of-self-2
invariant_of-self-2 g c =
    let s = c.self.inside in
    sound-added s.generation s.chunks.items _ _ c.in_ok-push.ensures.items (length s.claims.items) s.least c.self.invariant (record { stage = tt; evidence = tt; forwarded = tt }) refl

pub returns-clause-ok : goal.returns-clause-ok
returns-clause-ok g c =
    let s = c.self.inside in
    rw (← c.self.view_is) (contents_from-added s.generation s.chunks.items _ _ c.in_ok-push.ensures.items s.sink.items s.answered.items (new_chunk c.args.tag.now (texts_of c.args.entries.now)) (rw (c.in_ok-copied.ensures, c.in_ok-copy_texts.ensures) refl))
