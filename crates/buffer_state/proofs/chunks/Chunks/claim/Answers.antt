use Rattle.std.proofs.Common.{◌++◌, ℕ, List, sym, ap, ◌∙◌}
use Rattle.buffer_state.specs.declared.chunk.Stage.TheVariants.{Claimed}
use Rattle.buffer_state.specs.Steps.{claimed}
use Rattle.buffer_state.specs.Slots.{Slot, put}
use Rattle.buffer_state.specs.Views.{state_of}
use Rattle.std.proofs.Common.{append-nil}
use Rattle.buffer_state.proofs.Steps.{passed, changed_is, sound_end, sound_claim, claim_ended}
use Rattle.buffer_state.specs.State.{State, Chunk, IsAt}
use Rattle.buffer_state.specs.declared.chunk.Stage.TheVariants.{Queued}
use Rattle.std.proofs.Common.{◌≡◌, subst}
use Rattle.buffer_state.proofs.Steps.{and_some, chunk_there}
use Rattle.buffer_state.proofs.chunks.Chunks.claim.Goals as goal

pub invariant_of-self : goal.invariant_of-self
invariant_of-self g c =
    let n = c.in_err-serial.ensures.none in
    sound_end c.self.inside.table c.self.inside.waiting c.self.inside.queue c.pop_queued.new.queue c.self.inside.next c.self.invariant
    (c.self.inside.queue.items, sym (ap (λ (xs : List ℕ). c.self.inside.queue.items ++ xs) n.0 ∙ append-nil c.self.inside.queue.items)) n.2 c.pop_queued.ensures.capacity

pub invariant_of-self-2 : goal.invariant_of-self-2
invariant_of-self-2 g c =
    let f = c.in_ok-serial.ensures.first in
    let v = passed c.self.inside.table c.in_ok-serial.serial f.0 in
    rw (c.put.ensures ∙ changed_is c.self.inside.table c.in_ok-serial.serial (put Claimed) v.0 v.1)
    (sound_claim c.self.inside.table c.self.inside.waiting c.self.inside.queue c.self.inside.next c.self.invariant c.in_ok-serial.serial v.0 c.pop_queued.new.queue v.1 v.2 f.1 f.3 c.pop_queued.ensures.capacity)

pub returns-clause-state : goal.returns-clause-state
returns-clause-state g c =
    let f = c.in_ok-serial.ensures.first in
    let v = passed c.self.inside.table c.in_ok-serial.serial f.0 in
    ap (λ (t : List (ℕ × Slot)). state_of t c.pop_queued.new.queue.items c.self.inside.next) (c.put.ensures ∙ changed_is c.self.inside.table c.in_ok-serial.serial (put Claimed) v.0 v.1)
    ∙ claim_ended c.self.inside.table c.self.inside.waiting c.self.inside.queue c.self.inside.next c.self.invariant c.in_ok-serial.serial v.0 c.pop_queued.new.queue.items v.1 v.2 f.1 f.2
    ∙ ap claimed c.self.view_is

pub returns-clause-queued : goal.returns-clause-queued
returns-clause-queued g c =
    let f = c.in_ok-serial.ensures.first in
    let v = passed c.self.inside.table c.in_ok-serial.serial f.0 in
    subst (λ (state : State). IsAt Queued state c.in_ok-serial.serial) c.self.view_is
    (and_some _ (λ (chunk : Chunk). chunk.stage ≡ Queued) v.0.chunk (chunk_there c.self.inside.table c.self.inside.queue.items c.self.inside.next c.in_ok-serial.serial v.0 v.1) v.2)
