use Rattle.custody_store.proofs.places.Places.holds.Goals as goal

pub returns-in-Some : goal.returns-in-Some
returns-in-Some g c = rw c.in-Some.ensures.some.1 c.holds.ensures
