-- Limits of what a buffer holds, and the status that a folder means.
use Rattle.std.specs.Prelude.{ℕ, ℤ, ◌+◌, ◌/◌, ◌-ℤ◌, ◌&&◌, ◌||◌, ◌==◌, Bool, true, false, cond, List, min, nat_lt, int_lt, unsigned_abs, Option, Some, None, option_map, if◌then◌else◌}
use Rattle.std.specs.List.{list_all, list_any}
use Rattle.std.specs.Option.{option_map_or}
use Rattle.program_text.specs.declared.status.Status.{Status}
use Rattle.program_text.specs.declared.status.Status.TheVariants.{Done, No, Usage}
use Rattle.folder_counts.specs.Times.{second}
use Rattle.folder_counts.specs.Views.{BufferView, FolderView, SinkView}
use Rattle.folder_counts.specs.declared.buffers.Found.{Found}
use Rattle.folder_counts.specs.declared.buffers.Found.TheVariants.{Chunks, Unsealed, Damaged, Unread}
use Rattle.folder_counts.specs.declared.counts.ChunkCounts.{ChunkCounts}
use Rattle.folder_counts.specs.declared.instant.Instant.{Instant}
use Rattle.folder_counts.specs.declared.limits.Limits.{Limits}

-- no chunks
abbrev pub no_chunks : ChunkCounts
no_chunks = record { staged = 0; queued = 0; entries = 0; bytes = 0 }

-- the live chunks that are found in a journal: none where it isn't whole
abbrev pub chunks_in : Found → ChunkCounts
chunks_in (Chunks chunks torn next oldest) = chunks
chunks_in Unsealed = no_chunks
chunks_in Damaged = no_chunks
chunks_in Unread = no_chunks

-- how many chunks they are, queued and staged together
abbrev pub chunks_of : ChunkCounts → ℕ
chunks_of chunks = chunks.staged + chunks.queued

-- a number is above the limit, if there is one
abbrev pub is_above : Option ℕ → ℕ → Bool
is_above (Some most) number = nat_lt most number
is_above None number = false

-- when the oldest event that is found in a journal happened
abbrev pub oldest_in : Found → Option Instant
oldest_in (Chunks chunks torn next oldest) = oldest
oldest_in Unsealed = None
oldest_in Damaged = None
oldest_in Unread = None

-- how many whole seconds have passed since that time, at most 2^64 - 1; 0 where it is still to come
abbrev pub age_of : ℤ → ℤ → ℕ
age_of now since = if int_lt since now
    then min (unsigned_abs (now -ℤ since) / second) 18446744073709551615 else 0

-- how many whole seconds old an event of this time is, where that is asked and there is one
abbrev pub age_in : Limits → Option Instant → ℕ
age_in limits oldest =
    option_map_or (λ limit. option_map_or (λ at. age_of limit.now at.nanos) oldest 0) limits.age 0

-- how many whole seconds old it may be
abbrev pub most_age : Limits → Option ℕ
most_age limits = option_map (λ limit. limit.seconds) limits.age

-- these chunks are more than a buffer may hold, or the oldest event in them is older than it may be
abbrev pub has_passed : Limits → ChunkCounts → Option Instant → Bool
has_passed limits chunks oldest = is_above limits.bytes chunks.bytes
    || is_above limits.chunks (chunks_of chunks) || is_above (most_age limits)
    (age_in limits oldest)

-- one of these buffers holds more than it may, or for longer
abbrev pub is_any_passed : Limits → List BufferView → Bool
is_any_passed limits buffers =
    list_any (λ buffer. has_passed limits (chunks_in buffer.found) (oldest_in buffer.found)) buffers

-- the journal is read, and not damaged
abbrev pub is_sound : Found → Bool
is_sound (Chunks chunks torn next oldest) = true
is_sound Unsealed = true
is_sound Damaged = false
is_sound Unread = false

-- all files of the sink are read, and none is damaged
abbrev pub is_sink_sound : SinkView → Bool
is_sink_sound sink = (sink.counts.damaged == 0) && (sink.counts.unread == 0)

-- all files that count are read, and none is damaged
abbrev pub are_sound : FolderView → Bool
are_sound folder = list_all (λ buffer. is_sound buffer.found) folder.buffers
    && list_all is_sink_sound folder.sinks

-- the status that a folder means
abbrev pub status_of : Limits → FolderView → Status
status_of limits folder = cond (are_sound folder)
    (cond (is_any_passed limits folder.buffers) No Done) Usage
