use Rattle.std.proofs.Common.{◌≡◌, ◌++◌, ℕ, List, ap, ◌∙◌, arith}
use Rattle.std.specs.Prelude.{filter}
use Rattle.buffer_state.specs.State.{is_queued}
use Rattle.buffer_state.specs.Steps.{settled}
use Rattle.buffer_state.specs.Views.{passes_at}
use Rattle.buffer_state.proofs.Steps.{sound_settled, settled_view}
use Rattle.buffer_state.proofs.chunks.Chunks.settle.Goals as goal

pub invariant_of-self-2 : goal.invariant_of-self-2
invariant_of-self-2 g c =
    let items : c.refill.new.queue.items ≡ filter (passes_at is_queued c.self.inside.table) c.self.inside.waiting.keys = c.refill.ensures.items ∙ ap (λ (xs : List ℕ). xs ++ filter (passes_at is_queued c.self.inside.table) c.self.inside.waiting.keys) c.clear.ensures.items in
    let l1 = c.len.ensures.len in
    let l2 = c.len-2.ensures.len in
    let room = c.in_ok-reserve.ensures.ok in
    let gone = c.clear.ensures.len in
    let cap = c.clear.ensures.capacity in
    let len = c.refill.ensures.len in
    let cap2 = c.refill.ensures.capacity in
    sound_settled c.self.inside.table c.self.inside.waiting c.self.inside.queue c.refill.new.queue c.self.inside.next c.self.invariant items (omega (arith, len, gone)) (omega (arith, l1, l2, room, gone, cap, cap2))

pub returns-clause-ok : goal.returns-clause-ok
returns-clause-ok g c =
    let items : c.refill.new.queue.items ≡ filter (passes_at is_queued c.self.inside.table) c.self.inside.waiting.keys = c.refill.ensures.items ∙ ap (λ (xs : List ℕ). xs ++ filter (passes_at is_queued c.self.inside.table) c.self.inside.waiting.keys) c.clear.ensures.items in
    settled_view c.self.inside.table c.self.inside.waiting c.self.inside.queue c.self.inside.next c.refill.new.queue.items c.self.invariant items ∙ ap settled c.self.view_is
