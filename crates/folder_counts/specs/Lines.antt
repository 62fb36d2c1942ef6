-- The lines of buffers and sinks.
use Rattle.std.specs.Prelude.{ℕ, ◌==◌, cond, List, [], ◌++◌, codes, decimal, fold, Option}
use Rattle.std.specs.Option.{option_map_or}
use Rattle.program_text.specs.Lines.{line}
use Rattle.folder_counts.specs.Counts.{chunks_sum}
use Rattle.folder_counts.specs.Limits.{age_in, chunks_in, chunks_of, is_above, most_age, no_chunks, oldest_in}
use Rattle.folder_counts.specs.Times.{instant_text}
use Rattle.folder_counts.specs.Views.{BufferView, SinkView}
use Rattle.folder_counts.specs.declared.buffers.Found.{Found}
use Rattle.folder_counts.specs.declared.buffers.Found.TheVariants.{Chunks, Unsealed, Damaged, Unread}
use Rattle.folder_counts.specs.declared.counts.ChunkCounts.{ChunkCounts}
use Rattle.folder_counts.specs.declared.instant.Instant.{Instant}
use Rattle.folder_counts.specs.declared.limits.Limits.{Limits}

-- a text, and behind it what chunks count to
abbrev pub with_chunks : List ℕ → ChunkCounts → List ℕ
with_chunks text chunks =
    text ++ codes " staged " ++ decimal chunks.staged ++ codes " queued " ++ decimal chunks.queued
    ++ codes " entries " ++ decimal chunks.entries ++ codes " bytes " ++ decimal chunks.bytes

-- a word and an instant; nothing where there is none
abbrev pub time_field : List ℕ → Option Instant → List ℕ
time_field word instant = option_map_or (λ at. word ++ instant_text at) instant []

-- a text, and behind it what is found in a journal
abbrev pub with_found : List ℕ → Found → List ℕ
with_found text (Chunks chunks torn next oldest) = with_chunks text chunks ++ codes " torn "
    ++ decimal torn ++ codes " next " ++ decimal next ++ time_field (codes " oldest event ") oldest
with_found text Unsealed = text ++ codes " unsealed"
with_found text Damaged = text ++ codes " damaged"
with_found text Unread = text ++ codes " unread"

-- the line of a buffer
abbrev pub buffer_line : BufferView → List ℕ
buffer_line buffer = line (with_found (codes "buffer " ++ buffer.path) buffer.found)

-- the line of a sink
abbrev pub sink_line : SinkView → List ℕ
sink_line sink =
    line
    (codes "sink " ++ sink.path ++ codes " files " ++ decimal sink.counts.files ++ codes " events "
    ++ decimal sink.counts.events ++ codes " bytes " ++ decimal sink.counts.bytes
    ++ codes " torn " ++ decimal sink.counts.torn
    ++ codes " newest " ++ sink.newest
    ++ time_field (codes " newest event ") sink.counts.newest_event)

-- the line of so many files of a sink of which a word is true; nothing where there are none
abbrev pub flaw_line : List ℕ → List ℕ → ℕ → List ℕ
flaw_line name word files = cond (files == 0) []
    (line (codes "sink " ++ name ++ word ++ decimal files))

-- the lines of a sink
abbrev pub sink_lines : SinkView → List ℕ
sink_lines sink = sink_line sink ++ flaw_line sink.path (codes " damaged ") sink.counts.damaged
    ++ flaw_line sink.path (codes " unread ") sink.counts.unread

-- what buffers hold together
abbrev pub total_of : List BufferView → ChunkCounts
total_of = fold (λ sum buffer. chunks_sum sum (chunks_in buffer.found)) no_chunks

-- the line of that
abbrev pub total_line : List BufferView → List ℕ
total_line buffers = line (with_chunks (codes "total") (total_of buffers))

-- the line of a number of a buffer that is above its limit; nothing of another
abbrev pub above_line : List ℕ → List ℕ → Option ℕ → ℕ → List ℕ
above_line name word most number = cond (is_above most number)
    (line (codes "over " ++ name ++ word ++ decimal number)) []

-- the lines of the limits that a buffer is above
abbrev pub over_lines : Limits → BufferView → List ℕ
over_lines limits buffer =
    above_line buffer.path (codes " bytes ") limits.bytes (chunks_in buffer.found).bytes
    ++ above_line buffer.path (codes " chunks ") limits.chunks
    (chunks_of (chunks_in buffer.found))
    ++ above_line buffer.path (codes " age ") (most_age limits)
    (age_in limits (oldest_in buffer.found))
