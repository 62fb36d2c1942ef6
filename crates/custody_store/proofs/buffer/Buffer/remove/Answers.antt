use Rattle.std.proofs.lemmas.List.{length-map}
use Rattle.std.proofs.Common.{length, refl, ap, ◌∙◌, arith}
use Rattle.custody_store.specs.Marks.{slot_from}
use Rattle.custody_store.proofs.Slots.{gone, slot_from-gone, contents_from-set, sound-set}
use Rattle.custody_store.proofs.buffer.Buffer.remove.Goals as goal

pub invariant_of-self : goal.invariant_of-self
invariant_of-self g c =
    let s = c.self.inside in
    let within = rw (← c.self.view_is) at c.requires in
    rw c.remove.ensures (sound-set s.generation s.chunks.items c.args.serial c.index_mut.result.now _ c.index_mut.ensures.value (length s.claims.items) s.least s.least c.self.invariant (omega arith) within
    (λ below. tt) (λ less. refl))

pub returns : goal.returns
returns g c =
    let s = c.self.inside in
    let within = rw (← c.self.view_is) at c.requires in
    rw (← c.self.view_is)
    (contents_from-set s.generation s.chunks.items c.args.serial c.index_mut.result.now c.remove.new.slot c.index_mut.ensures.value gone s.sink.items s.answered.items within
    (ap (slot_from s.generation) c.remove.ensures ∙ slot_from-gone s.generation c.index_mut.result.now))

pub index_mut-requires : goal.index_mut-requires
index_mut-requires g c =
    let s = c.self.inside in
    let n = s.chunks.ok.0 in
    let within = simp length-map at (rw (← c.self.view_is) at c.requires) in
    omega (arith, n, within)
