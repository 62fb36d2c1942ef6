use Rattle.std.proofs.Common.{option_map, sym, ap, ◌∙◌}
use Rattle.buffer_state.specs.State.{State, chunk_at}
use Rattle.buffer_state.specs.Slots.{Slot}
use Rattle.buffer_state.proofs.Serials.{map_map}
use Rattle.buffer_state.proofs.Slots.{lookup_chunks}
use Rattle.buffer_state.proofs.chunks.Chunks.chunk.Goals as goal

pub returns-clause-value : goal.returns-clause-value
returns-clause-value g c = map_map (λ (slot : Slot). slot.chunk) _ c.get.result ∙ ap (option_map (λ (slot : Slot). slot.chunk)) c.get.ensures.value ∙ sym (lookup_chunks _ c.args.serial)
    ∙ ap (λ (state : State). chunk_at state c.args.serial) c.self.view_is
