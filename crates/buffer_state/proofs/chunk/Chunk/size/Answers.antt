use Rattle.std.proofs.Common.{◌∙◌, ap}
use Rattle.buffer_state.specs.State.{size}
use Rattle.buffer_state.specs.Slots.{Slot}
use Rattle.buffer_state.proofs.chunk.Chunk.size.Goals as goal

pub returns : goal.returns
returns g c = c.self.invariant.sized ∙ ap (λ (s : Slot). size s.chunk.entries) c.self.view_is
