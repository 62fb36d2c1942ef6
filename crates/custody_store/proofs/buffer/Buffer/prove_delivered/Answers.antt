use Rattle.std.proofs.Common.{length, map, refl, ap, ◌∙◌, arith}
use Rattle.std.proofs.lemmas.List.{length-map}
use Rattle.custody_store.specs.Buffers.{is_queued}
use Rattle.custody_store.specs.Marks.{slot_from}
use Rattle.custody_store.proofs.ChunksAt.{claimed_within}
use Rattle.custody_store.proofs.Slots.{with_evidence, slot_from-evident, evident_below, queued_marked, old_not_queued, claimed_slot, contents_from-set, sound-set}
use Rattle.custody_store.proofs.buffer.Buffer.prove_delivered.Goals as goal

pub invariant_of-self : goal.invariant_of-self
invariant_of-self g c =
    let s = c.self.inside in
    let now = s.generation in
    let count = length s.claims.items in
    let old = c.index_mut.result.now in
    let claimed = rw (← c.self.view_is) at c.requires in
    let within = claimed_within (map (slot_from now) s.chunks.items) c.args.serial claimed in
    rw c.prove_delivered.ensures (sound-set now s.chunks.items c.args.serial old _ c.index_mut.ensures.value count s.least s.least c.self.invariant (omega arith) within
    (evident_below count now old (claimed_slot now s.chunks.items c.args.serial old (simp length-map at within) c.index_mut.ensures.value claimed))
    (λ less. ap is_queued (slot_from-evident now old) ∙ queued_marked (slot_from now old) with_evidence (λ chunk. refl) ∙ old_not_queued now s.chunks.items c.args.serial old old c.index_mut.ensures.value count s.least c.self.invariant within less))

pub returns : goal.returns
returns g c =
    let s = c.self.inside in
    let now = s.generation in
    let old = c.index_mut.result.now in
    let within = claimed_within (map (slot_from now) s.chunks.items) c.args.serial (rw (← c.self.view_is) at c.requires) in
    rw (← c.self.view_is)
    (contents_from-set now s.chunks.items c.args.serial old c.prove_delivered.new.slot c.index_mut.ensures.value with_evidence s.sink.items s.answered.items within
    (ap (slot_from now) c.prove_delivered.ensures ∙ slot_from-evident now old))

pub index_mut-requires : goal.index_mut-requires
index_mut-requires g c =
    let s = c.self.inside in
    let n = s.chunks.ok.0 in
    let within = simp length-map at (claimed_within (map (slot_from s.generation) s.chunks.items) c.args.serial (rw (← c.self.view_is) at c.requires)) in
    omega (arith, n, within)
