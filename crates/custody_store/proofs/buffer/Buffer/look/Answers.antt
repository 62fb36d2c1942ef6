use Rattle.std.proofs.Common.{refl, map, arith}
use Rattle.std.proofs.lemmas.List.{length-map}
use Rattle.custody_store.specs.Marks.{slot_from}
use Rattle.custody_store.proofs.ChunksAt.{chunk_at_past}
use Rattle.custody_store.proofs.Slots.{chunk_at-view}
use Rattle.custody_store.proofs.buffer.Buffer.look.Goals as goal

pub returns-in-Some : goal.returns-in-Some
returns-in-Some g c =
    let s = c.self.inside in
    let at = rw c.deref.ensures.value at c.in-Some.ensures.lookup in
    rw (← c.self.view_is, chunk_at-view s.generation s.chunks.items c.args.serial c.in-Some.slot.now at.3.0 at.1) c.look_at.ensures

pub returns-in-None : goal.returns-in-None
returns-in-None g c =
    let s = c.self.inside in
    let at = rw c.deref.ensures.value at c.in-None.ensures.lookup in
    let past = at.3 in
    rw (← c.self.view_is, chunk_at_past (map (slot_from s.generation) s.chunks.items) c.args.serial (simp length-map (omega (arith, past)))) refl
