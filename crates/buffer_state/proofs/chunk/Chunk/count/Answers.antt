use Rattle.std.proofs.Common.{◌∙◌, length, ap}
use Rattle.buffer_state.specs.Slots.{Slot}
use Rattle.buffer_state.proofs.chunk.Chunk.count.Goals as goal

pub returns : goal.returns
returns g c = c.self.invariant.counted ∙ ap (λ (s : Slot). length s.chunk.entries) c.self.view_is
