use Rattle.std.proofs.Common.{Option, Some, option_map, sym, ap, ◌∙◌}
use Rattle.buffer_state.specs.State.{State, Chunk, chunk_at}
use Rattle.buffer_state.specs.Slots.{Slot}
use Rattle.buffer_state.proofs.Slots.{lookup_chunks}
use Rattle.buffer_state.proofs.chunks.Chunks.stage.Goals as goal

pub returns-in-Some : goal.returns-in-Some
returns-in-Some g c = ap Some c.stage.ensures ∙ ap (λ (o : Option Slot). option_map (λ (chunk : Chunk). chunk.stage) (option_map (λ (slot : Slot). slot.chunk) o)) c.in-Some.ensures.value ∙ ap (option_map (λ (chunk : Chunk). chunk.stage)) (sym (lookup_chunks _ c.args.serial))
    ∙ ap (λ (state : State). option_map (λ (chunk : Chunk). chunk.stage) (chunk_at state c.args.serial)) c.self.view_is

pub returns-in-None : goal.returns-in-None
returns-in-None g c = ap (λ (o : Option Slot). option_map (λ (chunk : Chunk). chunk.stage) (option_map (λ (slot : Slot). slot.chunk) o)) c.in-None.ensures.value ∙ ap (option_map (λ (chunk : Chunk). chunk.stage)) (sym (lookup_chunks _ c.args.serial))
    ∙ ap (λ (state : State). option_map (λ (chunk : Chunk). chunk.stage) (chunk_at state c.args.serial)) c.self.view_is
