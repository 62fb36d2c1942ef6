use Rattle.std.proofs.lemmas.Result.{on_ok_weaker}
use Rattle.custody_store.proofs.Covering.{covers_both, held_tags}
use Rattle.custody_store.proofs.buffer.Buffer.add_tags.Goals as goal

pub returns : goal.returns
returns g c =
    let s = c.self.inside in
    let one = rw c.as_slice.ensures.value at c.in_ok-add_chunk_tags.ensures in
    rw (← c.self.view_is) (on_ok_weaker c.add_event_tags.result
    (λ two. covers_both _ _ _ _ _ _ one two (held_tags s.generation s.chunks.items s.sink.items s.answered.items)) (rw c.as_slice-2.ensures.value at c.add_event_tags.ensures))
