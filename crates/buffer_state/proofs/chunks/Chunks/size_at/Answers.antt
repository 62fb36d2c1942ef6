use Rattle.std.proofs.Common.{sym, ap, ◌∙◌}
use Rattle.buffer_state.specs.State.{State, size_at}
use Rattle.buffer_state.proofs.Steps.{size_there, size_none}
use Rattle.buffer_state.proofs.chunks.Chunks.size_at.Goals as goal

pub returns-in-Some-clause-size : goal.returns-in-Some-clause-size
returns-in-Some-clause-size g c = c.size.ensures ∙ sym (size_there _ c.self.inside.queue.items c.self.inside.next c.args.serial c.in-Some.chunk.now (sym c.in-Some.ensures.value)) ∙ ap (λ (state : State). size_at state c.args.serial) c.self.view_is

pub returns-in-None-clause-size : goal.returns-in-None-clause-size
returns-in-None-clause-size g c = sym (size_none _ c.self.inside.queue.items c.self.inside.next c.args.serial (sym c.in-None.ensures.value)) ∙ ap (λ (state : State). size_at state c.args.serial) c.self.view_is
