use Rattle.std.proofs.Common.{Bor}
use Rattle.custody_store.specs.Contents.{Contents}
use Rattle.custody_store.proofs.Changes.{buffer_got, nothing_past}
use Rattle.custody_store.proofs.places.Places.buffer.Goals as goal

pub returns-in-Some : goal.returns-in-Some
returns-in-Some g c =
    let at = rw c.deref.ensures.value at c.in-Some.ensures.lookup in
    let got = rw c.deref-in-Some.ensures.value at c.get-in-Some.ensures.lookup in
    let is = buffer_got (λ (b : Bor Contents). b.now) c.args.self.now.list.items c.args.place c.args.buffer c.in-Some.there.now c.get-in-Some.result at.3.0 at.1 got in
    record { some = is.0; none = is.1 }

pub returns-in-None : goal.returns-in-None
returns-in-None g c =
    let at = rw c.deref.ensures.value at c.in-None.ensures.lookup in
    record { some = tt; none = nothing_past c.args.self.now.list.items c.args.place c.args.buffer at.3 }
