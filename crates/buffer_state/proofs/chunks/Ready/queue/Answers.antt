use Rattle.std.proofs.Common.{◌≡◌, ℕ, List, ap, ◌∙◌, arith}
use Rattle.std.specs.Map.{set_value}
use Rattle.std.specs.BTreeMap.{is_at}
use Rattle.std.specs.Ordering.{nat_cmp}
use Rattle.buffer_state.specs.declared.chunk.Stage.TheVariants.{Staged, Queued}
use Rattle.buffer_state.specs.State.{Readied, is_queued}
use Rattle.buffer_state.specs.Steps.{queued_last}
use Rattle.buffer_state.specs.Slots.{Slot, put}
use Rattle.buffer_state.specs.Views.{state_of}
use Rattle.buffer_state.proofs.Slots.{without_free}
use Rattle.buffer_state.proofs.Steps.{changed_is, sound_queue, queue_view}
use Rattle.buffer_state.proofs.Rooms.{there_with, waiting_in, sound_before, waits_with}
use Rattle.buffer_state.proofs.chunks.Ready.queue.Goals as goal

pub invariant_of-result : goal.invariant_of-result
invariant_of-result g c =
    let found = there_with _ (λ (slot : Slot). slot.chunk.stage ≡ Staged) c.self.invariant.ready in
    let room = c.self.invariant.room in
    let len = c.push_back_reserved.ensures.len in
    let cap = c.push_back_reserved.ensures.capacity in
    rw (c.put.ensures ∙ changed_is c.self.inside.table c.self.inside.serial (put Queued) found.0 found.1)
    (sound_queue c.self.inside.table (waiting_in c.self.inside.table) c.self.inside.queue c.self.inside.next (sound_before c.self.inside.table c.self.inside.waiting c.self.inside.queue c.self.inside.next c.self.inside.serial c.self.invariant)
    c.self.inside.serial found.0 c.self.inside.waiting c.push_back_reserved.new.self found.1 (ap is_queued found.2) c.push_back_reserved.ensures.items
    (omega (arith, room, len, cap)) (waits_with c.self.inside.table c.self.inside.waiting c.self.inside.queue c.self.inside.next c.self.inside.serial c.self.invariant) c.self.invariant.listed)

pub returns : goal.returns
returns g c =
    let found = there_with _ (λ (slot : Slot). slot.chunk.stage ≡ Staged) c.self.invariant.ready in
    ap (λ (t : List (ℕ × Slot)). state_of t c.push_back_reserved.new.self.items c.self.inside.next) (c.put.ensures ∙ changed_is c.self.inside.table c.self.inside.serial (put Queued) found.0 found.1)
    ∙ ap (λ (xs : List ℕ). state_of (set_value (is_at (nat_cmp c.self.inside.serial)) c.self.inside.table (put Queued found.0)) xs c.self.inside.next) c.push_back_reserved.ensures.items
    ∙ queue_view c.self.inside.table c.self.inside.next c.self.inside.serial found.0 found.1 c.self.inside.queue.items (without_free c.self.inside.table c.self.inside.next c.self.inside.serial found.0 c.self.inside.queue.items found.1 (ap is_queued found.2) c.self.invariant.free)
    ∙ ap (λ (r : Readied). queued_last r.serial r.state) c.self.view_is
