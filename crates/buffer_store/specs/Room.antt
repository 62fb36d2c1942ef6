-- What a buffer has room for.
use Rattle.std.specs.Prelude.{ℕ, ◌+◌, ◌*◌, ◌<◌, ◌≤◌, List, [], ◌∷◌, cond, sum_by}
use Rattle.std.specs.Map.{values_of}
use Rattle.buffer_state.specs.State.{State, is_queued, size, total_size}
use Rattle.buffer_state.specs.Shown.{Facts}
use Rattle.buffer_state.specs.declared.limits.Limits.{Limits}

-- how many bytes of entries the queued chunks have together
abbrev pub queued_size : State → ℕ
queued_size state = sum_by (λ chunk. cond (is_queued chunk.stage) (size chunk.entries) 0)
    (values_of state.chunks)

-- these entries are no more than the buffer takes beside its chunks that aren't queued
abbrev pub FitsBesideUnqueued : Limits → State → List (List ℕ) → Type 0
FitsBesideUnqueued limits state entries =
    total_size state + size entries ≤ limits.total + queued_size state

-- the chunks take more than four fifths of what the buffer takes
abbrev pub IsNearlyFull : Limits → State → Type 0
IsNearlyFull limits state = 4 * limits.total < 5 * total_size state

-- how many bytes of entries the queued ones of these chunks have together, as they are shown
abbrev pub queued_in : List Facts → ℕ
queued_in [] = 0
queued_in (chunk ∷ chunks) = cond (is_queued chunk.stage) chunk.size 0 + queued_in chunks
