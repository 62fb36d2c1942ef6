use Rattle.std.proofs.lemmas.Result.{err_from_is_err_and}
use Rattle.std.proofs.Common.{length, ap, ◌∙◌, arith}
use Rattle.std.proofs.lemmas.List.{length_push, length-map}
use Rattle.custody_store.specs.Marks.{slot_from}
use Rattle.custody_store.proofs.Slots.{in_stage, slot_from-restaged, restaged_below, contents_from-set, sound-set, sound_more}
use Rattle.custody_store.proofs.buffer.Buffer.restage.Goals as goal

pub invariant_of-self-2 : goal.invariant_of-self-2
invariant_of-self-2 g c =
    let s = c.self.inside in
    let now = s.generation in
    let within = rw (← c.self.view_is) at c.requires in
    let next = ap length c.in_ok-push.ensures.items ∙ length_push s.claims.items tt in
    let le = c.self.invariant.now_is in
    let sound = sound_more (length s.claims.items) now s.least _ s.chunks.items next c.self.invariant in
    rw (c.restage.ensures, c.kept_at-kept.ensures) (sound-set now s.chunks.items c.args.serial c.index_mut.result.now _ c.index_mut.ensures.value _ s.least _ sound c.lesser-self-inside.ensures.second within
    (restaged_below _ now c.args.stage c.index_mut.result.now (omega arith))
    (λ less. absurd (let a = c.lesser-self-inside.ensures.first in omega arith)))

pub returns-clause-ok : goal.returns-clause-ok
returns-clause-ok g c =
    let s = c.self.inside in
    let now = s.generation in
    let within = rw (← c.self.view_is) at c.requires in
    rw (← c.self.view_is)
    (contents_from-set now s.chunks.items c.args.serial c.index_mut.result.now c.restage.new.slot c.index_mut.ensures.value (in_stage c.args.stage) s.sink.items s.answered.items within
    (ap (slot_from now) (rw c.kept_at-kept.ensures at c.restage.ensures) ∙ slot_from-restaged now c.args.stage c.index_mut.result.now))

pub index_mut-requires : goal.index_mut-requires
index_mut-requires g c =
    let s = c.self.inside in
    let n = s.chunks.ok.0 in
    let within = simp length-map at (rw (← c.self.view_is) at c.requires) in
    omega (arith, n, within)

pub returns-in_err-push-clause-err : goal.returns-in_err-push-clause-err
returns-in_err-push-clause-err g c =
    let p = err_from_is_err_and c.from_residual.result c.from_residual.ensures.1 in
    rw p.1 c.self.view_is

pub invariant_of-self : goal.invariant_of-self
invariant_of-self g c = rw c.in_err-push.ensures.items c.self.invariant
