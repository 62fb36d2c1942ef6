use Rattle.std.proofs.Common.{◌≡◌}
use Rattle.std.specs.Prelude.{filter}
use Rattle.std.specs.VecDeque.Iter.{deque_iter_rest}
use Rattle.buffer_state.specs.State.{is_queued}
use Rattle.buffer_state.specs.Views.{passes_at}
use Rattle.buffer_state.proofs.chunks.next_queued.Given as goal

abbrev pub invariant-loop-serial : goal.invariant-loop-serial
invariant-loop-serial g l = filter (passes_at is_queued l.table) l.queue.items ≡ filter (passes_at is_queued l.table) (deque_iter_rest l.serial-iterator)
