use Rattle.std.proofs.Common.{◌≡◌}
use Rattle.buffer_state.specs.declared.chunk.Stage.TheVariants.{Staged}
use Rattle.buffer_state.specs.Slots.{Slot}
use Rattle.buffer_state.proofs.Rooms.{there_with, sound_after}
use Rattle.buffer_state.proofs.chunks.Ready.leave.Goals as goal

pub invariant_of-result : goal.invariant_of-result
invariant_of-result g c =
    let found = there_with _ (λ (slot : Slot). slot.chunk.stage ≡ Staged) c.self.invariant.ready in
    sound_after c.self.inside.table c.self.inside.waiting c.self.inside.queue c.self.inside.next c.self.inside.serial c.self.invariant c.remove.new.self found.0 found.1 found.2 c.remove.ensures.updates.0 c.remove.ensures.ordered
