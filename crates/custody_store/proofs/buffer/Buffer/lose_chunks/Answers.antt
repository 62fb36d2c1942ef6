use Rattle.std.proofs.Common.{length, ◌∙◌}
use Rattle.custody_store.proofs.Slots.{no_slots, sound_again}
use Rattle.custody_store.proofs.buffer.Buffer.lose_chunks.Goals as goal

pub invariant_of-self : goal.invariant_of-self
invariant_of-self g c =
    let claims = c.self.inside.claims in
    sound_again (length claims.items) c.len-self-inside.result c.clear.new.self.items (c.len-self-inside.ensures ∙ claims.ok.0) (no_slots _ _ c.clear.ensures.items)
