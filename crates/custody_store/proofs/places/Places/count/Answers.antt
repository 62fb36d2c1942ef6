use Rattle.std.proofs.Common.{arith}
use Rattle.custody_store.proofs.Changes.{room_there, contents_past, nothing_past}
use Rattle.custody_store.proofs.places.Places.count.Goals as goal

pub returns-in-Some : goal.returns-in-Some
returns-in-Some g c =
    let at = rw c.deref.ensures.value at c.in-Some.ensures.lookup in
    let there = c.in-Some.there.now in
    let len = there.buffers.ok.0 in
    let is = c.len.ensures in
    record {
      there = λ b h. room_there c.args.self.now.list.items c.args.place b there at.3.0 at.1 (omega (arith, len, is));
      empty = λ b h. contents_past c.args.self.now.list.items c.args.place b there at.3.0 at.1 (omega (arith, len, is));
    }

pub returns-in-None : goal.returns-in-None
returns-in-None g c =
    let at = rw c.deref.ensures.value at c.in-None.ensures.lookup in
    record {
      there = λ b h. absurd (omega arith);
      empty = λ b h. nothing_past c.args.self.now.list.items c.args.place b at.3;
    }
