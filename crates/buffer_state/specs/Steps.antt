-- The steps of a buffer: the condition of each, and the state that it leads to.
use Rattle.std.specs.Prelude.{ℕ, ◌+◌, ◌-◌, ◌^◌, ◌<◌, ◌≤◌, ◌⊎◌, ◌==◌, ◌&&◌, not, min, cond, nat_le, nat_lt, List, [], ◌∷◌, ◌++◌, filter, map, drop, slice_get, Option, Result, Ok, Err}
use Rattle.std.specs.Option.{option_map_or}
use Rattle.std.specs.Map.{set_value, remove_entry}
use Rattle.std.specs.Ordering.{nat_cmp}
use Rattle.std.specs.BTreeMap.{is_at}
use Rattle.buffer_state.specs.declared.chunk.Stage.{Stage}
use Rattle.buffer_state.specs.declared.chunk.Stage.TheVariants.{Staged, Queued, Claimed}
use Rattle.buffer_state.specs.declared.limits.Limits.{Limits}
use Rattle.buffer_state.specs.declared.limits.AppendFault.{AppendFault}
use Rattle.buffer_state.specs.declared.limits.AppendFault.TheVariants.{TooLarge, Full, LastSerial}
use Rattle.buffer_state.specs.State.{Chunk, Numbered, State, chunk_at, size, size_at, total_size, IsStagedOf, newest_staged, queued_rising}

-- how many bytes of entries a chunk has at most, whatever the settings are
abbrev pub greatest_size : ℕ
greatest_size = 16775168

-- the serial that no chunk gets
abbrev pub last_serial : ℕ
last_serial = 2 ^ 64 - 1

-- how many bytes of entries a chunk has at most under these settings
abbrev pub limit_of : Limits → ℕ
limit_of limits = min limits.chunk greatest_size

-- the state with this chunk in the place of the live one of this serial
abbrev pub with_chunk : ℕ → Chunk → State → State
with_chunk serial chunk state =
    record state { chunks = set_value (is_at (nat_cmp serial)) state.chunks chunk }

-- The chunk of this serial takes these entries: it is staged and of this tag, or it is new and its
-- serial isn't below the next. It doesn't grow beyond what any chunk may have.
pub record CanAppend (state : State) (serial : ℕ) (tag : List ℕ)
    (entries : List (List ℕ)) : Type 0 where
  pub place : IsStagedOf state serial tag ⊎ ((state.next ≤ serial) × (serial < last_serial))
  pub small : size_at state serial + size entries ≤ greatest_size

-- the state with a new staged chunk of this serial
abbrev pub added : ℕ → List ℕ → List (List ℕ) → State → State
added serial tag entries state = record {
  chunks = state.chunks ++ (serial, record { tag = tag; entries = entries; stage = Staged }) ∷ [];
  next = serial + 1;
  queue = state.queue;
}

-- the state with these entries behind those of the live chunk of this serial, or in a new one
abbrev pub appended : ℕ → List ℕ → List (List ℕ) → State → State
appended serial tag entries state =
    option_map_or (λ chunk.
    with_chunk serial (record chunk { entries = chunk.entries ++ entries }) state)
    (chunk_at state serial) (added serial tag entries state)

-- the state without the chunk of this serial, which comes next again
abbrev pub taken_back : ℕ → State → State
taken_back serial state = record {
  chunks = remove_entry (is_at (nat_cmp serial)) state.chunks;
  next = serial;
  queue = state.queue;
}

-- The place of an append of these entries: the newest staged chunk of the tag where they fit into
-- it within a chunk's limit, else a new one.
abbrev pub place_of : Limits → State → List ℕ → List (List ℕ) → ℕ
place_of limits state tag entries =
    option_map_or (λ serial.
    cond (nat_le (size_at state serial + size entries) (limit_of limits)) serial state.next)
    (newest_staged state tag) state.next

-- The place of an append, or why there is none: the entries alone are beyond a chunk's limit, or
-- with all that is there beyond the buffer's, or no serial is left.
abbrev pub planned : Limits → State → List ℕ → List (List ℕ) → Result ℕ AppendFault
planned limits state tag entries =
    cond (nat_lt (limit_of limits) (size entries)) (Err TooLarge)
    (cond (nat_lt limits.total (total_size state + size entries)) (Err Full)
    (cond ((place_of limits state tag entries == state.next) && (state.next == last_serial))
    (Err LastSerial)
    (Ok (place_of limits state tag entries))))

-- the state with the live chunk of this serial in this stage
abbrev pub restaged : ℕ → Stage → State → State
restaged serial stage state =
    option_map_or (λ chunk. with_chunk serial (record chunk { stage = stage }) state)
    (chunk_at state serial) state

-- The chunk of this serial is queued, behind all others. A staged one is queued so, and a claimed
-- one given back.
abbrev pub queued_last : ℕ → State → State
queued_last serial state = record (restaged serial Queued state)
    { queue = state.queue ++ serial ∷ [] }

-- the first of the queue is claimed, where there is one, and the others are the queue
abbrev pub claimed : State → State
claimed state =
    option_map_or (λ serial.
    restaged serial Claimed (record state { queue = drop 1 state.queue }))
    (slice_get state.queue 0) state

-- the chunk of this serial is gone
abbrev pub removed : ℕ → State → State
removed serial state = record {
  chunks = remove_entry (is_at (nat_cmp serial)) state.chunks;
  next = state.next;
  queue = filter (λ other. not (other == serial)) state.queue;
}

-- the queued chunk of least serial
abbrev pub oldest : State → Option ℕ
oldest state = slice_get (queued_rising state) 0

-- claimed chunks are queued again
abbrev pub unclaimed : Stage → Stage
unclaimed Claimed = Queued
unclaimed stage = stage

-- the live chunks, claimed ones counted as queued
abbrev pub unclaimed_chunks : List Numbered → List Numbered
unclaimed_chunks chunks =
    map (λ numbered. (numbered.0, record numbered.1 { stage = unclaimed numbered.1.stage })) chunks

-- the queue goes by rising serial
abbrev pub settled : State → State
settled state = record state { queue = queued_rising state }

-- a buffer that is opened again: claimed chunks are queued, and the queue goes by rising serial
abbrev pub reopened : State → State
reopened state = settled (record state { chunks = unclaimed_chunks state.chunks })
