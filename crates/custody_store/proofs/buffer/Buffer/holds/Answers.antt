use Rattle.std.proofs.Common.{inl, inr}
use Rattle.std.proofs.lemmas.Bool.{both_ways}
use Rattle.custody_store.proofs.buffer.Buffer.holds.Goals as goal

pub returns-then-have_entry : goal.returns-then-have_entry
returns-then-have_entry g c =
    let e = rw c.as_slice.ensures.value at (c.have_entry.ensures c.self.inside.generation) in
    rw (← c.self.view_is) (λ _. inl (e.0 c.if-have_entry.true), λ _. c.if-have_entry.true)

pub returns-else-have_entry : goal.returns-else-have_entry
returns-else-have_entry g c =
    let e = rw c.as_slice.ensures.value at (c.have_entry.ensures c.self.inside.generation) in
    let f = rw c.as_slice-else-have_entry.ensures.value at c.has_event.ensures in
    rw (← c.self.view_is) (
      λ t. inr (f.0 t),
      λ h. elim h [ inl live ↦ absurd (both_ways c.have_entry.result c.if-have_entry.false (e.1 live)) | inr stored ↦ f.1 stored ],
    )
