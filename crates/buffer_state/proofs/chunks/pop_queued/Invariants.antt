use Rattle.std.proofs.Common.{◌≡◌, ◌≤◌}
use Rattle.std.specs.Prelude.{filter}
use Rattle.std.specs.VecDeque.{deque_len, deque_capacity}
use Rattle.buffer_state.specs.State.{is_queued}
use Rattle.buffer_state.specs.Views.{passes_at, IsEndOf}
use Rattle.buffer_state.proofs.chunks.pop_queued.Given as goal

abbrev pub invariant-loop-serial : goal.invariant-loop-serial
invariant-loop-serial g l = IsEndOf l.queue.items l.initial.queue.items × (filter (passes_at is_queued l.table) l.initial.queue.items ≡ filter (passes_at is_queued l.table) l.queue.items)
    × (deque_len l.queue ≤ deque_len l.initial.queue) × (deque_capacity l.queue ≡ deque_capacity l.initial.queue)

abbrev pub decreases-loop-serial : goal.decreases-loop-serial
decreases-loop-serial g l = deque_len l.queue
