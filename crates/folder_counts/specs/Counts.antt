-- Chunks and files, counted.
use Rattle.std.specs.Prelude.{ℕ, ◌+◌, List, count_by, not, sum_by, map, if◌then◌else◌, Option, None}
use Rattle.buffer_state.specs.Shown.{Facts, numbered_facts}
use Rattle.buffer_state.specs.State.{State, is_staged}
use Rattle.folder_counts.specs.Instants.{later_instant}
use Rattle.folder_counts.specs.declared.counts.ChunkCounts.{ChunkCounts}
use Rattle.folder_counts.specs.declared.counts.SinkCounts.{SinkCounts}
use Rattle.folder_counts.specs.declared.instant.Instant.{Instant}

-- how many chunks grow and how many don't, how many entries they have, and how many bytes these
-- have
abbrev pub chunk_counts : List Facts → ChunkCounts
chunk_counts chunks = record {
  staged = count_by (λ facts. is_staged facts.stage) chunks;
  queued = count_by (λ facts. not (is_staged facts.stage)) chunks;
  entries = sum_by (λ facts. facts.count) chunks;
  bytes = sum_by (λ facts. facts.size) chunks;
}

-- the same of the live chunks of a buffer
abbrev pub state_counts : State → ChunkCounts
state_counts state = chunk_counts (map numbered_facts state.chunks)

-- one chunk
abbrev pub one_chunk : Facts → ChunkCounts
one_chunk facts = record {
  staged = if is_staged facts.stage then 1 else 0;
  queued = if is_staged facts.stage then 0 else 1;
  entries = facts.count;
  bytes = facts.size;
}

-- both together
abbrev pub chunks_sum : ChunkCounts → ChunkCounts → ChunkCounts
chunks_sum a b = record {
  staged = a.staged + b.staged;
  queued = a.queued + b.queued;
  entries = a.entries + b.entries;
  bytes = a.bytes + b.bytes;
}

-- a sink's file of so many events, whose items have so many bytes, behind which so many stand, and
-- of which the newest happened then
abbrev pub file_of : ℕ → ℕ → ℕ → Option Instant → SinkCounts
file_of events taken torn newest = record {
  files = 1;
  events = events;
  bytes = taken;
  torn = torn;
  damaged = 0;
  unread = 0;
  newest_event = newest;
}

-- one that is damaged
abbrev pub damaged_file : SinkCounts
damaged_file = record {
  files = 1;
  events = 0;
  bytes = 0;
  torn = 0;
  damaged = 1;
  unread = 0;
  newest_event = None;
}

-- one that isn't read to its end
abbrev pub unread_file : SinkCounts
unread_file = record {
  files = 1;
  events = 0;
  bytes = 0;
  torn = 0;
  damaged = 0;
  unread = 1;
  newest_event = None;
}

-- the files of both together
abbrev pub sinks_sum : SinkCounts → SinkCounts → SinkCounts
sinks_sum a b = record {
  files = a.files + b.files;
  events = a.events + b.events;
  bytes = a.bytes + b.bytes;
  torn = a.torn + b.torn;
  damaged = a.damaged + b.damaged;
  unread = a.unread + b.unread;
  newest_event = later_instant a.newest_event b.newest_event;
}
