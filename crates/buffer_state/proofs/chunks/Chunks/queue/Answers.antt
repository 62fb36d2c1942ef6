use Rattle.std.proofs.Common.{◌++◌, ◌∷◌, [], ℕ, List, ap, ◌∙◌, arith}
use Rattle.std.specs.Map.{set_value}
use Rattle.std.specs.BTreeMap.{is_at}
use Rattle.std.specs.Ordering.{nat_cmp}
use Rattle.buffer_state.specs.declared.chunk.Stage.TheVariants.{Staged, Queued}
use Rattle.buffer_state.specs.State.{is_queued}
use Rattle.buffer_state.specs.Steps.{queued_last}
use Rattle.buffer_state.specs.Slots.{Slot, put}
use Rattle.buffer_state.specs.Views.{state_of}
use Rattle.buffer_state.proofs.Serials.{on_err}
use Rattle.buffer_state.proofs.Slots.{without_free}
use Rattle.buffer_state.proofs.Steps.{changed_is, sound_queue, sound_room, sound_waiting, queue_view, found_at, waiting_claims}
use Rattle.buffer_state.proofs.chunks.Chunks.queue.Goals as goal

pub invariant_of-self-in_err-insert : goal.invariant_of-self-in_err-insert
invariant_of-self-in_err-insert g c =
    sound_waiting c.self.inside.table c.self.inside.waiting c.insert.new.self c.reserve.new.self c.self.inside.next c.in_err-insert.ensures.err
    (sound_room c.self.inside.table c.self.inside.waiting c.self.inside.queue c.self.inside.next c.self.invariant c.reserve.new.self c.reserve.ensures.items c.reserve.ensures.len c.reserve.ensures.capacity)

pub returns-in_err-insert-clause-err : goal.returns-in_err-insert-clause-err
returns-in_err-insert-clause-err g c = on_err _ (ap (λ (xs : List ℕ). state_of c.self.inside.table xs c.self.inside.next) c.reserve.ensures.items ∙ c.self.view_is)

pub invariant_of-self-2 : goal.invariant_of-self-2
invariant_of-self-2 g c =
    let found = found_at c.self.inside.table c.self.inside.queue.items c.self.inside.next c.args.serial _ Staged c.self.view_is c.requires in
    let few = waiting_claims c.self.inside.table c.self.inside.waiting c.self.inside.queue c.self.inside.next c.self.invariant in
    let count = c.len.ensures.len in
    let room = c.in_ok-reserve.ensures.ok in
    let len = c.push_back_reserved.ensures.len in
    let cap = c.push_back_reserved.ensures.capacity in
    rw (c.put.ensures ∙ changed_is c.self.inside.table c.args.serial (put Queued) found.0 found.1)
    (sound_queue c.self.inside.table c.self.inside.waiting c.self.inside.queue c.self.inside.next c.self.invariant c.args.serial found.0 c.insert.new.self c.push_back_reserved.new.self found.1 (ap is_queued found.2)
    (c.push_back_reserved.ensures.items ∙ ap (λ (xs : List ℕ). xs ++ c.args.serial ∷ []) c.reserve.ensures.items)
    (omega (arith, few, count, room, len, cap))
    c.in_ok-insert.ensures.updates.0 c.insert.ensures.ordered)

pub returns-clause-ok : goal.returns-clause-ok
returns-clause-ok g c =
    let found = found_at c.self.inside.table c.self.inside.queue.items c.self.inside.next c.args.serial _ Staged c.self.view_is c.requires in
    ap (λ (t : List (ℕ × Slot)). state_of t c.push_back_reserved.new.self.items c.self.inside.next) (c.put.ensures ∙ changed_is c.self.inside.table c.args.serial (put Queued) found.0 found.1)
    ∙ ap (λ (xs : List ℕ). state_of (set_value (is_at (nat_cmp c.args.serial)) c.self.inside.table (put Queued found.0)) xs c.self.inside.next) (c.push_back_reserved.ensures.items ∙ ap (λ (xs : List ℕ). xs ++ c.args.serial ∷ []) c.reserve.ensures.items)
    ∙ queue_view c.self.inside.table c.self.inside.next c.args.serial found.0 found.1 c.self.inside.queue.items (without_free c.self.inside.table c.self.inside.next c.args.serial found.0 c.self.inside.queue.items found.1 (ap is_queued found.2) c.self.invariant.free)
    ∙ ap (queued_last c.args.serial) c.self.view_is
