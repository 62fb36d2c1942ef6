use Rattle.std.proofs.Common.{◌≡◌, List, Option, Some, None, sym, ap, subst, ◌∙◌}
use Rattle.buffer_state.specs.State.{State}
use Rattle.buffer_state.specs.Steps.{oldest}
use Rattle.buffer_state.proofs.Steps.{waiting_queued}
use Rattle.std.specs.Prelude.{ℕ, IfSome, filter, slice_get}
use Rattle.buffer_state.specs.State.{State, Chunk, IsAt, is_queued}
use Rattle.buffer_state.specs.declared.chunk.Stage.TheVariants.{Queued}
use Rattle.buffer_state.specs.Views.{passes_at}
use Rattle.buffer_state.proofs.Steps.{passed, and_some, chunk_there}
use Rattle.buffer_state.proofs.Rooms.{first_passes}
use Rattle.buffer_state.proofs.chunks.Chunks.oldest.Goals as goal

pub returns-clause-first : goal.returns-clause-first
returns-clause-first g c = c.first_queued.ensures ∙ ap (λ (serials : List ℕ). slice_get serials 0) (waiting_queued c.self.inside.table c.self.inside.waiting c.self.inside.queue c.self.inside.next c.self.invariant) ∙ ap (λ (state : State). oldest state) c.self.view_is

pub returns-clause-queued : goal.returns-clause-queued
returns-clause-queued g c = by c.first_queued.result c.first_queued.ensures
  where
    by : (o : Option ℕ) → o ≡ slice_get (filter (passes_at is_queued c.self.inside.table) c.self.inside.waiting.keys) 0 → IfSome o (IsAt Queued c.args.self.now)
    by None is = tt
    by (Some s) is = (
        let v = passed c.self.inside.table s (first_passes (passes_at is_queued c.self.inside.table) c.self.inside.waiting.keys s (sym is)) in
        subst (λ (state : State). IsAt Queued state s) c.self.view_is
        (and_some _ (λ (chunk : Chunk). chunk.stage ≡ Queued) v.0.chunk (chunk_there c.self.inside.table c.self.inside.queue.items c.self.inside.next s v.0 v.1) v.2)
        )
