use Rattle.std.proofs.Common.{◌≡◌, ◌≤◌, ◌+◌, ◌++◌, length}
use Rattle.std.specs.Prelude.{filter}
use Rattle.std.specs.VecDeque.{deque_len, deque_capacity}
use Rattle.buffer_state.specs.State.{is_queued}
use Rattle.buffer_state.specs.Views.{passes_at}
use Rattle.buffer_state.proofs.chunks.refill.Given as goal

abbrev pub invariant-loop-serial : goal.invariant-loop-serial
invariant-loop-serial g l = (l.queue.items ++ filter (passes_at is_queued l.table) l.serial-iterator ≡ l.initial.queue.items ++ filter (passes_at is_queued l.table) l.waiting.keys)
    × (deque_len l.queue + length l.serial-iterator ≤ deque_len l.initial.queue + length l.waiting.keys) × (deque_capacity l.queue ≡ deque_capacity l.initial.queue)
