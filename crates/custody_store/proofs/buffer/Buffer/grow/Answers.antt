use Rattle.std.proofs.lemmas.List.{length-map}
use Rattle.std.proofs.Common.{refl, List, ℕ, length, refl, ap, ◌∙◌, arith}
use Rattle.std.specs.Option.{option_and_then}
use Rattle.std.proofs.lemmas.Result.{err_from_is_err_and}
use Rattle.step_lines.specs.Texts.{texts_of}
use Rattle.custody_store.specs.Buffers.{is_queued}
use Rattle.custody_store.specs.Contents.{longer}
use Rattle.custody_store.specs.Marks.{slot_from}
use Rattle.custody_store.proofs.Slots.{sound-set, old_not_queued, queued_marked, contents_from-set, contents_from-same}
use Rattle.custody_store.proofs.buffer.Buffer.grow.Goals as goal

pub invariant_of-self : goal.invariant_of-self
invariant_of-self g c =
    let s = c.self.inside in
    let within = rw (← c.self.view_is) at c.requires in
    sound-set s.generation s.chunks.items c.args.serial c.index_mut.result.now _ c.index_mut.ensures.value (length s.claims.items) s.least s.least c.self.invariant (omega arith) within
    (c.extend.ensures.marks (length s.claims.items))
    (λ less. ap is_queued (c.in_err-extend.ensures.err s.generation) ∙ old_not_queued s.generation s.chunks.items c.args.serial c.index_mut.result.now c.index_mut.result.now c.index_mut.ensures.value (length s.claims.items) s.least c.self.invariant within less)

pub returns-in_err-extend-clause-err : goal.returns-in_err-extend-clause-err
returns-in_err-extend-clause-err g c =
    let s = c.self.inside in
    let p = err_from_is_err_and c.from_residual-in_err-extend.result c.from_residual-in_err-extend.ensures.1 in
    rw (p.1, ← c.self.view_is)
    (contents_from-same s.generation s.chunks.items c.args.serial c.index_mut.result.now _ c.index_mut.ensures.value s.sink.items s.answered.items (c.in_err-extend.ensures.err s.generation))

pub invariant_of-self-2 : goal.invariant_of-self-2
invariant_of-self-2 g c =
    let s = c.self.inside in
    let within = rw (← c.self.view_is) at c.requires in
    let more = c.in_ok-extend.ensures.ok s.generation in
    sound-set s.generation s.chunks.items c.args.serial c.index_mut.result.now _ c.index_mut.ensures.value (length s.claims.items) s.least s.least c.self.invariant (omega arith) within
    (c.extend.ensures.marks (length s.claims.items))
    (λ less. ap is_queued more ∙ queued_marked (slot_from s.generation c.index_mut.result.now) _ (λ chunk. refl)
    ∙ old_not_queued s.generation s.chunks.items c.args.serial c.index_mut.result.now c.index_mut.result.now c.index_mut.ensures.value (length s.claims.items) s.least c.self.invariant within less)

pub returns-clause-ok : goal.returns-clause-ok
returns-clause-ok g c =
    let s = c.self.inside in
    let within = rw (← c.self.view_is) at c.requires in
    let more = c.in_ok-extend.ensures.ok s.generation in
    rw (← c.self.view_is)
    (contents_from-set s.generation s.chunks.items c.args.serial c.index_mut.result.now _ c.index_mut.ensures.value (longer (texts_of c.args.entries.now)) s.sink.items s.answered.items within
    (more ∙ ap (λ (entries : List (List ℕ)). option_and_then (longer entries) (slot_from s.generation c.index_mut.result.now)) c.in_ok-copies.ensures))

pub index_mut-requires : goal.index_mut-requires
index_mut-requires g c =
    let s = c.self.inside in
    let n = s.chunks.ok.0 in
    let within = simp length-map at (rw (← c.self.view_is) at c.requires) in
    omega (arith, n, within)

pub returns-in_err-copies-clause-err : goal.returns-in_err-copies-clause-err
returns-in_err-copies-clause-err g c =
    let p = err_from_is_err_and c.from_residual.result c.from_residual.ensures.1 in
    rw p.1 refl
