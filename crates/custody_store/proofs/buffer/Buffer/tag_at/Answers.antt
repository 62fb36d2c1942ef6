use Rattle.custody_store.proofs.Slots.{chunk_at-view}
use Rattle.std.proofs.Common.{inr, inl}
use Rattle.custody_store.proofs.Members.{if_some}
use Rattle.custody_store.proofs.buffer.Buffer.tag_at.Goals as goal

pub returns-in-None : goal.returns-in-None
returns-in-None g c = rw (← c.self.view_is) (if_some c.tag_among.result _ _ (λ tag h. inr h) (rw c.as_slice.ensures.value at c.tag_among.ensures))

pub returns-in_ok-get-in-Some : goal.returns-in_ok-get-in-Some
returns-in_ok-get-in-Some g c =
    let s = c.self.inside in
    let at = rw c.deref.ensures.value at c.in_ok-get-in-Some.ensures.lookup in
    let serial = c.in-Some.serial in
    rw (← c.self.view_is) (if_some c.tag_in.result _ _ (λ tag h. inl (serial, rw (chunk_at-view s.generation s.chunks.items serial c.in_ok-get-in-Some.field-0.now at.3.0 at.1) (h s.generation))) c.tag_in.ensures)
