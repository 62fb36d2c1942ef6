-- A buffer with the sink of its output: what it holds, and what may happen to it.
use Rattle.std.specs.Prelude.{◌≡◌, ℕ, zero, suc, ◌+◌, ◌==◌, ◌&&◌, not, Bool, true, false, cond, List, ◌++◌, map, Option, Some, None, option_map, Contains, IsSomeAnd, ◌⊎◌}
use Rattle.std.specs.Option.{option_map_or}
use Rattle.custody_store.specs.declared.chunk.Stage.{Stage}
use Rattle.custody_store.specs.declared.chunk.Stage.TheVariants.{Staged, Queued, Claimed}

-- an entry under its tag
pub record Event : Type 0 where
  pub tag : List ℕ
  pub entry : List ℕ

-- A live chunk. Since its relay's last restart there was evidence that it is delivered, and it was
-- forwarded, or not.
pub record Chunk : Type 0 where
  pub tag : List ℕ
  pub entries : List (List ℕ)
  pub stage : Stage
  pub evidence : Bool
  pub forwarded : Bool

-- A buffer: its live chunks by serial, the serial that comes next, and what the sink of its output
-- holds.
pub record BufferState : Type 0 where
  pub chunks : ℕ → Option Chunk
  pub next : ℕ
  pub sink : List Event

-- the buffer with what it has at this serial
abbrev pub with_chunk : ℕ → Option Chunk → BufferState → BufferState
with_chunk serial chunk state =
    record state { chunks = λ s. cond (s == serial) chunk (state.chunks s) }

-- these entries, under their tag
abbrev pub events_of : List ℕ → List (List ℕ) → List Event
events_of tag entries = map (λ entry. record { tag = tag; entry = entry }) entries

-- Appending.

-- The buffer takes an event of this tag at this serial: a staged chunk of the tag, or the next
-- serial.
abbrev pub CanTake : BufferState → List ℕ → ℕ → Type 0
CanTake state tag serial = IsSomeAnd (state.chunks serial)
    (λ chunk. (chunk.stage ≡ Staged) × (chunk.tag ≡ tag)) ⊎ (serial ≡ state.next)

-- the buffer after these entries were appended at the serial: to the chunk that is there, else to a
-- new one
abbrev pub chunk_with : Option Chunk → List ℕ → List (List ℕ) → Chunk
chunk_with None tag entries =
    record { tag = tag; entries = entries; stage = Staged; evidence = false; forwarded = false }
chunk_with (Some chunk) tag entries = record chunk { entries = chunk.entries ++ entries }

-- the next serial after an append: it rises where the append made a new chunk
abbrev pub next_after : Option Chunk → ℕ → ℕ → ℕ
next_after None serial next = serial + 1
next_after (Some chunk) serial next = next

-- the buffer after these entries were appended at this serial
abbrev pub appended_to : List ℕ → List (List ℕ) → ℕ → BufferState → BufferState
appended_to tag entries serial state = record state {
  chunks = λ s. cond (s == serial) (Some (chunk_with (state.chunks serial) tag entries))
      (state.chunks s);
  next = next_after (state.chunks serial) serial state.next;
}

-- The oldest queued chunk.

-- the chunk is there and queued
abbrev pub is_queued_at : Stage → Bool
is_queued_at Staged = false
is_queued_at Queued = true
is_queued_at Claimed = false

-- whether there is a chunk, and it is queued
abbrev pub is_queued : Option Chunk → Bool
is_queued slot = option_map_or (λ chunk. is_queued_at chunk.stage) slot false

-- no chunk of a lesser serial is queued
abbrev pub none_queued_below : ℕ → (ℕ → Option Chunk) → Bool
none_queued_below zero chunks = true
none_queued_below (suc serial) chunks = not (is_queued (chunks serial))
    && none_queued_below serial chunks

-- the buffer without its queued chunk of least serial
abbrev pub without_oldest : BufferState → BufferState
without_oldest state = record state {
  chunks = λ serial. cond (is_queued (state.chunks serial) && none_queued_below serial state.chunks)
      None (state.chunks serial);
}

-- Restarts.

-- a claimed chunk is queued again
abbrev pub unclaimed : Stage → Stage
unclaimed Staged = Staged
unclaimed Queued = Queued
unclaimed Claimed = Queued

-- the chunk after its relay stopped and started again
abbrev pub restarted : Chunk → Chunk
restarted chunk = record chunk {
  stage = unclaimed chunk.stage;
  evidence = false;
  forwarded = false;
}

-- the buffer after its relay stopped and started again: what was in memory is lost
abbrev pub started_again : Bool → BufferState → BufferState
started_again true state = record { chunks = λ _. None; next = 0; sink = state.sink }
started_again false state =
    record state { chunks = λ serial. option_map restarted (state.chunks serial) }

-- What is held.

-- The event is in this live chunk.
pub record IsInChunk (chunk : Chunk) (event : Event) : Type 0 where
  pub tag : chunk.tag ≡ event.tag
  pub entry : Contains chunk.entries event.entry

-- The event is in a live chunk of the buffer, or in its output's sink.
abbrev pub Holds : BufferState → Event → Type 0
Holds state event = ((serial : ℕ) × IsSomeAnd (state.chunks serial)
    (λ chunk. IsInChunk chunk event)) ⊎ Contains state.sink event
