use Rattle.custody_store.proofs.places.Places.hold.Goals as goal

pub returns : goal.returns
returns g c = rw c.as_slice.ensures.value at c.hold_any.ensures
