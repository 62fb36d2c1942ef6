use Rattle.std.proofs.Common.{length, ◌∙◌}
use Rattle.custody_store.proofs.Slots.{contents_from-later, sound_again}
use Rattle.custody_store.proofs.buffer.Buffer.begin_generation.Goals as goal

pub invariant_of-self : goal.invariant_of-self
invariant_of-self g c =
    let s = c.self.inside in
    sound_again (length s.claims.items) _ s.chunks.items (c.len-self-inside.ensures ∙ s.claims.ok.0) c.self.invariant.below

pub returns : goal.returns
returns g c =
    let s = c.self.inside in
    rw (← c.self.view_is, c.len-self-inside.ensures, s.claims.ok.0)
    (contents_from-later (length s.claims.items) s.generation s.chunks.items s.sink.items s.answered.items c.self.invariant.below)
