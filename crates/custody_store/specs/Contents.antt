-- What a buffer keeps, as lists, and the buffer that it stands for.
use Rattle.std.specs.Prelude.{◌≡◌, ◌==◌, ℕ, cond, Bool, true, false, List, [], ◌∷◌, ◌++◌, map, length, Option, Some, option_map, slice_get, slice_set, nat_lt, unwrap_or}
use Rattle.std.specs.Option.{option_and_then}
use Rattle.custody_store.specs.Buffers.{Event, Chunk, BufferState, restarted}
use Rattle.custody_store.specs.declared.chunk.Stage.TheVariants.{Staged}
use Rattle.custody_store.specs.declared.chunk.Look.{Look}
use Rattle.custody_store.specs.declared.event.Event.{Event as Stored}

-- an event without where it lies in memory
abbrev pub event_of : {A : Type 0} → Stored A → Event
event_of event = record { tag = event.tag.items; entry = event.entry.items }

-- the same of each event of a list
abbrev pub stored_events : {A : Type 0} → List (Stored A) → List Event
stored_events events = map event_of events

-- What a buffer and its sink have at one time, and to which serials an acknowledgement was ever
-- given.
pub record Contents : Type 0 where
  pub chunks : List (Option Chunk)  -- by serial; `None` where the chunk is gone
  pub sink : List Event
  pub answered : List Bool  -- by serial; nothing behind the end

-- the live chunk of this serial
abbrev pub chunk_at : List (Option Chunk) → ℕ → Option Chunk
chunk_at chunks serial = option_and_then (λ slot. slot) (slice_get chunks serial)

-- whether an acknowledgement was given to this serial
abbrev pub flag_at : List Bool → ℕ → Bool
flag_at flags serial = unwrap_or (slice_get flags serial) false

-- the chunks after this happened to the live chunk of this serial
abbrev pub changed : List (Option Chunk) → ℕ → (Chunk → Option Chunk) → List (Option Chunk)
changed chunks serial change =
    slice_set chunks serial (option_and_then change (chunk_at chunks serial))

-- what may be asked of a chunk
abbrev pub look_of : Chunk → Look
look_of chunk = record {
  stage = chunk.stage;
  evidence = chunk.evidence;
  forwarded = chunk.forwarded;
  count = length chunk.entries;
}

-- what a chunk delivers
pub record Parts : Type 0 where
  pub tag : List ℕ
  pub entries : List (List ℕ)

-- what this chunk delivers
abbrev pub parts_of : Chunk → Parts
parts_of chunk = record { tag = chunk.tag; entries = chunk.entries }

-- the chunk with these entries at its end
abbrev pub longer : List (List ℕ) → Chunk → Option Chunk
longer entries chunk = Some (record chunk { entries = chunk.entries ++ entries })

-- a new chunk of these entries
abbrev pub new_chunk : List ℕ → List (List ℕ) → Chunk
new_chunk tag entries = record {
  tag = tag;
  entries = entries;
  stage = Staged;
  evidence = false;
  forwarded = false;
}

-- the chunks after these entries were appended at the serial: to the chunk that is there, else to a
-- new one
abbrev pub taken_in : List (Option Chunk) → ℕ → List ℕ → List (List ℕ) → List (Option Chunk)
taken_in chunks serial tag entries = cond (nat_lt serial (length chunks))
    (changed chunks serial (longer entries)) (chunks ++ Some (new_chunk tag entries) ∷ [])

-- the chunks after a restart: those in memory are lost
abbrev pub restarted_chunks : Bool → List (Option Chunk) → List (Option Chunk)
restarted_chunks in_memory chunks = cond in_memory [] (map (option_map restarted) chunks)

-- nothing was ever appended
abbrev pub empty_contents : Contents
empty_contents = record { chunks = []; sink = []; answered = [] }

-- what the buffer of this number has, among these; nothing where there is none
abbrev pub contents_of : List Contents → ℕ → Contents
contents_of buffers b = unwrap_or (slice_get buffers b) empty_contents

-- the buffer, as the steps of a network speak of it
abbrev pub buffer_of : Contents → BufferState
buffer_of contents = record {
  chunks = chunk_at contents.chunks;
  next = length contents.chunks;
  sink = contents.sink;
}

-- The flags are these, and this one besides.
abbrev pub IsAnsweredToo : List Bool → ℕ → List Bool → Type 0
IsAnsweredToo before serial after = (s : ℕ)
    → flag_at after s ≡ cond (s == serial) true (flag_at before s)
