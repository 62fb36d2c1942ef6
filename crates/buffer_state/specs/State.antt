-- What a buffer holds: its live chunks, the serial that comes next, and the order in which queued
-- chunks are taken.
use Rattle.std.specs.Prelude.{ℕ, ◌≡◌, ◌&&◌, Bool, List, [], filter, length, sum_by, Option, None, IsSomeAnd, bytes_eq}
use Rattle.std.specs.Option.{option_map_or}
use Rattle.std.specs.List.{concat, last_or}
use Rattle.std.specs.Map.{lookup, keys_of, values_of}
use Rattle.std.specs.Ordering.{nat_cmp}
use Rattle.std.specs.BTreeMap.{is_at}
use Rattle.buffer_state.specs.declared.chunk.Stage.{Stage}
use Rattle.buffer_state.specs.declared.chunk.Stage.TheVariants.{Staged, Queued}

-- A live chunk: stored entries of one tag, and what it waits for.
pub record Chunk : Type 0 where
  pub tag : List ℕ
  pub entries : List (List ℕ)
  pub stage : Stage

-- a chunk under its serial
abbrev pub Numbered : Type 0
Numbered = ℕ × Chunk

-- A buffer at one time.
pub record State : Type 0 where
  pub chunks : List Numbered  -- the live chunks, by rising serial
  pub next : ℕ  -- the serial of the next new chunk
  pub queue : List ℕ  -- the queued serials, in the order in which they are claimed

-- A buffer at one time, and the serial of a chunk of it that all is ready to be queued for.
pub record Readied : Type 0 where
  pub state : State
  pub serial : ℕ

-- the live chunk of this serial
abbrev pub chunk_at : State → ℕ → Option Chunk
chunk_at state serial = lookup (is_at (nat_cmp serial)) state.chunks

-- a buffer that nothing was appended to
abbrev pub empty : State
empty = record { chunks = []; next = 0; queue = [] }

-- how many bytes entries have
abbrev pub size : List (List ℕ) → ℕ
size entries = length (concat entries)

-- how many bytes of entries the live chunk of this serial has; 0 where there is none
abbrev pub size_at : State → ℕ → ℕ
size_at state serial = option_map_or (λ chunk. size chunk.entries) (chunk_at state serial) 0

-- how many bytes of entries all live chunks have together
abbrev pub total_size : State → ℕ
total_size state = sum_by (λ chunk. size chunk.entries) (values_of state.chunks)

-- whether the chunk still grows
abbrev pub is_staged : Stage → Bool
is_staged Staged = Bool.true
is_staged _ = Bool.false

-- whether the chunk is to be claimed
abbrev pub is_queued : Stage → Bool
is_queued Queued = Bool.true
is_queued _ = Bool.false

-- the live chunk of this serial is in this stage
abbrev pub IsAt : Stage → State → ℕ → Type 0
IsAt stage state serial = IsSomeAnd (chunk_at state serial) (λ chunk. chunk.stage ≡ stage)

-- the live chunk of this serial is staged and has this tag
abbrev pub IsStagedOf : State → ℕ → List ℕ → Type 0
IsStagedOf state serial tag = IsSomeAnd (chunk_at state serial)
    (λ chunk. (chunk.stage ≡ Staged) × (chunk.tag ≡ tag))

-- the newest staged chunk of this tag
abbrev pub newest_staged : State → List ℕ → Option ℕ
newest_staged state tag =
    last_or None (keys_of (filter (λ numbered. is_staged numbered.1.stage
    && bytes_eq tag numbered.1.tag) state.chunks))

-- the serials of the queued chunks, rising
abbrev pub queued_rising : State → List ℕ
queued_rising state = keys_of (filter (λ numbered. is_queued numbered.1.stage) state.chunks)
