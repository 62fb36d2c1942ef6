use Rattle.custody_store.proofs.Changes.{closed_read, closed_past}
use Rattle.custody_store.proofs.places.Places.closed.Goals as goal

pub returns-in-Some : goal.returns-in-Some
returns-in-Some g c =
    let at = rw c.deref.ensures.value at c.in-Some.ensures.lookup in
    closed_read c.args.self.now.list.items c.args.place c.in-Some.there.now at.3.0 at.1

pub returns-in-None : goal.returns-in-None
returns-in-None g c =
    let at = rw c.deref.ensures.value at c.in-None.ensures.lookup in
    closed_past c.args.self.now.list.items c.args.place at.3
