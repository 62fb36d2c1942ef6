-- Samples in the text format of Prometheus, version 0.0.4.
use Rattle.std.specs.Prelude.{ℕ, List, [], ◌∷◌, ◌++◌, codes, Option, Some, None, option_map}
use Rattle.std.specs.List.{flat_map}
use Rattle.std.specs.Option.{option_map_or}
use Rattle.program_text.specs.Lines.{line}
use Rattle.folder_counts.specs.Pieces.{escaped, piece_text}
use Rattle.folder_counts.specs.Views.{BufferView, SinkView}
use Rattle.folder_counts.specs.declared.buffers.Found.{Found}
use Rattle.folder_counts.specs.declared.buffers.Found.TheVariants as found
use Rattle.folder_counts.specs.declared.counts.ChunkCounts.{ChunkCounts}
use Rattle.folder_counts.specs.declared.counts.SinkCounts.{SinkCounts}
use Rattle.folder_counts.specs.declared.instant.Instant.{Instant}
use Rattle.folder_counts.specs.declared.metrics.BufferMetric.{BufferMetric}
use Rattle.folder_counts.specs.declared.metrics.BufferMetric.TheVariants.{Sound, Staged, Queued, Entries, Bytes, Torn, Next, Oldest}
use Rattle.folder_counts.specs.declared.metrics.SinkMetric.{SinkMetric}
use Rattle.folder_counts.specs.declared.metrics.SinkMetric.TheVariants as sink
use Rattle.folder_counts.specs.declared.pieces.Piece.{Piece}
use Rattle.folder_counts.specs.declared.pieces.Piece.TheVariants.{Number, Seconds}

-- the line of a sample: the metric, a label up to the quote in front of its value, the value, and
-- what it says
abbrev pub sample_line : List ℕ → List ℕ → List ℕ → Piece → List ℕ
sample_line metric label value says =
    line (metric ++ label ++ flat_map escaped value ++ (34 ∷ 125 ∷ 32 ∷ []) ++ piece_text says)

-- a line that says something of a metric
abbrev pub comment_line : List ℕ → List ℕ → List ℕ → List ℕ
comment_line word name said = line (word ++ name ++ codes " " ++ said)

-- the lines in front of a metric's samples: what it is, and its type
abbrev pub head_lines : List ℕ → List ℕ → List ℕ → List ℕ
head_lines name help type = comment_line (codes "# HELP ") name help
    ++ comment_line (codes "# TYPE ") name type

-- ---- buffers

-- the name of a metric
abbrev pub buffer_name : BufferMetric → List ℕ
buffer_name Sound = codes "relaynet_buffer_sound"
buffer_name Staged = codes "relaynet_buffer_staged_chunks"
buffer_name Queued = codes "relaynet_buffer_queued_chunks"
buffer_name Entries = codes "relaynet_buffer_entries"
buffer_name Bytes = codes "relaynet_buffer_bytes"
buffer_name Torn = codes "relaynet_buffer_torn_bytes"
buffer_name Next = codes "relaynet_buffer_next_serial"
buffer_name Oldest = codes "relaynet_buffer_oldest_event_timestamp_seconds"

-- what it is
abbrev pub buffer_help : BufferMetric → List ℕ
buffer_help Sound = codes "Whether the journal that counts is read, and isn't damaged."
buffer_help Staged = codes "Chunks that still grow."
buffer_help Queued = codes "Chunks that wait for their delivery, or for its end."
buffer_help Entries = codes "Entries in all chunks."
buffer_help Bytes = codes "Bytes of the entries in all chunks."
buffer_help Torn = codes "Bytes behind the last whole record of the journal."
buffer_help Next = codes "Serial that the next chunk gets."
buffer_help Oldest =
    codes "Time of the oldest event in all chunks, in seconds since the beginning of 1970."

-- the seconds of an instant; none where there is none
abbrev pub seconds_at : Option Instant → Option Piece
seconds_at instant = option_map (λ at. Seconds at.nanos) instant

-- what its sample says of a journal that is whole
abbrev pub measured : BufferMetric → ChunkCounts → ℕ → ℕ → Option Instant → Option Piece
measured Sound chunks torn next oldest = Some (Number 1)
measured Staged chunks torn next oldest = Some (Number chunks.staged)
measured Queued chunks torn next oldest = Some (Number chunks.queued)
measured Entries chunks torn next oldest = Some (Number chunks.entries)
measured Bytes chunks torn next oldest = Some (Number chunks.bytes)
measured Torn chunks torn next oldest = Some (Number torn)
measured Next chunks torn next oldest = Some (Number next)
measured Oldest chunks torn next oldest = seconds_at oldest

-- the same of another: only whether the journal is sound is known
abbrev pub only_sound : BufferMetric → ℕ → Option Piece
only_sound Sound number = Some (Number number)
only_sound Staged number = None
only_sound Queued number = None
only_sound Entries number = None
only_sound Bytes number = None
only_sound Torn number = None
only_sound Next number = None
only_sound Oldest number = None

-- what its sample says where this is found
abbrev pub buffer_figure : BufferMetric → Found → Option Piece
buffer_figure metric (found.Chunks chunks torn next oldest) =
    measured metric chunks torn next oldest
buffer_figure metric found.Unsealed = only_sound metric 1
buffer_figure metric found.Damaged = only_sound metric 0
buffer_figure metric found.Unread = only_sound metric 0

-- its sample of a buffer; nothing where it says nothing
abbrev pub buffer_sample : BufferMetric → BufferView → List ℕ
buffer_sample metric buffer =
    option_map_or (λ says. sample_line (buffer_name metric)
    (codes "{buffer=" ++ 34 ∷ []) buffer.path says) (buffer_figure metric buffer.found) []

-- a metric of buffers
abbrev pub buffer_family : BufferMetric → List BufferView → List ℕ
buffer_family metric buffers = head_lines (buffer_name metric) (buffer_help metric) (codes "gauge")
    ++ flat_map (buffer_sample metric) buffers

-- a text, and behind it the metrics of buffers
abbrev pub with_buffers : List ℕ → List BufferView → List ℕ
with_buffers text buffers = text ++ flat_map (λ metric. buffer_family metric buffers)
    (Sound ∷ Staged ∷ Queued ∷ Entries ∷ Bytes ∷ Torn ∷ Next ∷ Oldest ∷ [])

-- ---- sinks

-- the name of a metric
abbrev pub sink_name : SinkMetric → List ℕ
sink_name sink.Files = codes "relaynet_sink_files"
sink_name sink.Events = codes "relaynet_sink_events"
sink_name sink.Bytes = codes "relaynet_sink_bytes"
sink_name sink.Torn = codes "relaynet_sink_torn_bytes"
sink_name sink.Damaged = codes "relaynet_sink_damaged_files"
sink_name sink.Unread = codes "relaynet_sink_unread_files"
sink_name sink.Newest = codes "relaynet_sink_newest_event_timestamp_seconds"

-- what it is
abbrev pub sink_help : SinkMetric → List ℕ
sink_help sink.Files = codes "Files of the sink."
sink_help sink.Events = codes "Events in all files of the sink."
sink_help sink.Bytes = codes "Bytes of the events in all files of the sink."
sink_help sink.Torn = codes "Bytes behind the last whole events of the files."
sink_help sink.Damaged =
    codes "Files in which more bytes stand behind the events than any event has."
sink_help sink.Unread = codes "Files that aren't read to their ends."
sink_help sink.Newest =
    codes
    "Time of the newest event in all files of the sink, in seconds since the beginning of 1970."

-- what its sample says of these counts
abbrev pub sink_figure : SinkMetric → SinkCounts → Option Piece
sink_figure sink.Files counts = Some (Number counts.files)
sink_figure sink.Events counts = Some (Number counts.events)
sink_figure sink.Bytes counts = Some (Number counts.bytes)
sink_figure sink.Torn counts = Some (Number counts.torn)
sink_figure sink.Damaged counts = Some (Number counts.damaged)
sink_figure sink.Unread counts = Some (Number counts.unread)
sink_figure sink.Newest counts = seconds_at counts.newest_event

-- its sample of a sink; nothing where it says nothing
abbrev pub sink_sample : SinkMetric → SinkView → List ℕ
sink_sample metric one =
    option_map_or (λ says. sample_line (sink_name metric) (codes "{sink=" ++ 34 ∷ []) one.path says)
    (sink_figure metric one.counts) []

-- a metric of sinks
abbrev pub sink_family : SinkMetric → List SinkView → List ℕ
sink_family metric sinks = head_lines (sink_name metric) (sink_help metric) (codes "gauge")
    ++ flat_map (sink_sample metric) sinks

-- a text, and behind it the metrics of sinks
abbrev pub with_sinks : List ℕ → List SinkView → List ℕ
with_sinks text sinks = text ++ flat_map (λ metric. sink_family metric sinks)
    (sink.Files ∷ sink.Events ∷ sink.Bytes ∷ sink.Torn ∷ sink.Damaged ∷ sink.Unread ∷ sink.Newest
    ∷ [])
