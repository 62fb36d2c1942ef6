use Rattle.std.proofs.Common.{ℕ, List, ap, ◌∙◌}
use Rattle.std.specs.Map.{remove_entry}
use Rattle.std.specs.BTreeMap.{is_at}
use Rattle.std.specs.Ordering.{nat_cmp}
use Rattle.buffer_state.specs.Steps.{removed}
use Rattle.buffer_state.specs.Slots.{Slot, chunks_in}
use Rattle.buffer_state.specs.Views.{state_of}
use Rattle.buffer_state.proofs.Steps.{sound_gone, sound_end, rising_removed, gone_view, parts}
use Rattle.buffer_state.proofs.chunks.Chunks.remove.Goals as goal

pub invariant_of-self : goal.invariant_of-self
invariant_of-self g c = rw c.remove.ensures (sound_end (remove_entry (is_at (nat_cmp c.args.serial)) c.self.inside.table) c.remove-2.new.self c.self.inside.queue c.trim.new.queue c.self.inside.next
    (sound_gone c.self.inside.table c.self.inside.waiting c.self.inside.queue c.self.inside.next c.self.invariant c.args.serial c.remove-2.new.self (rising_removed c.self.inside.table c.args.serial c.self.invariant.rising)
    c.remove-2.ensures.updates.0 c.remove-2.ensures.ordered)
    c.trim.ensures.end c.trim.ensures.len c.trim.ensures.capacity)

pub returns : goal.returns
returns g c = ap (parts (chunks_in c.remove.new.self) c.self.inside.next) c.trim.ensures.same
    ∙ ap (λ (t : List (ℕ × Slot)). state_of t c.self.inside.queue.items c.self.inside.next) c.remove.ensures
    ∙ gone_view c.self.inside.table c.self.inside.next c.args.serial c.self.inside.queue.items c.self.invariant.rising
    ∙ ap (removed c.args.serial) c.self.view_is
