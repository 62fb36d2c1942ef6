-- What is found in the bytes of a file.
use Rattle.std.specs.Prelude.{ℕ, ◌≡◌, ◌+◌, ◌<◌, List, Option, length}
use Rattle.buffer_state.specs.State.{State}
use Rattle.chunk_journal.specs.Meaning.{EndsUnsealed, IsDamaged}
use Rattle.event_listing.specs.Live.{live_events}
use Rattle.event_listing.specs.Reading.{longest_item}
use Rattle.folder_listing.specs.Files.{Means, IsMeaningOf}
use Rattle.sink_series.specs.Events.{Counts}
use Rattle.folder_counts.specs.Counts.{damaged_file, file_of, state_counts, unread_file}
use Rattle.folder_counts.specs.Instants.{IsNewestAt, IsOldestAt}
use Rattle.folder_counts.specs.declared.buffers.Found.{Found}
use Rattle.folder_counts.specs.declared.buffers.Found.TheVariants.{Chunks, Unsealed, Damaged, Unread}
use Rattle.folder_counts.specs.declared.counts.ChunkCounts.{ChunkCounts}
use Rattle.folder_counts.specs.declared.counts.SinkCounts.{SinkCounts}
use Rattle.folder_counts.specs.declared.instant.Instant.{Instant}

-- a journal of these bytes means so many chunks, and this next serial, so many bytes are torn at
-- its end, and the oldest event of the live chunks happened then
pub record CountsChunks (bytes : List ℕ) (chunks : ChunkCounts) (torn next : ℕ)
    (oldest : Option Instant) : Type 0 where
  pub state : State
  pub means : IsMeaningOf bytes (Means state torn)
  pub chunks_are : chunks ≡ state_counts state
  pub next_is : next ≡ state.next
  pub oldest_is : IsOldestAt (live_events state) oldest

-- this is found in a journal of these bytes; nothing is said of them where it isn't read to its end
abbrev pub IsInJournal : List ℕ → Found → Type 0
IsInJournal bytes (Chunks chunks torn next oldest) = CountsChunks bytes chunks torn next oldest
IsInJournal bytes Unsealed = EndsUnsealed bytes
IsInJournal bytes Damaged = IsDamaged bytes
IsInJournal bytes Unread = Unit {0}

-- a sink's file of these bytes holds so many events, their items have so many bytes, so many stand
-- behind them, and the newest event happened then
pub record CountsEvents (bytes : List ℕ) (events taken torn : ℕ)
    (newest : Option Instant) : Type 0 where
  pub counts : Counts bytes events torn
  pub whole : taken + torn ≡ length bytes
  pub newest_is : IsNewestAt counts.events newest

-- behind the events of a sink's file of these bytes stand more bytes than any event has
pub record EndsLong (bytes : List ℕ) : Type 0 where
  pub events : ℕ
  pub torn : ℕ
  pub counts : Counts bytes events torn
  pub long : longest_item < torn

-- a sink's file of these bytes counts to this; nothing is said of them where it isn't read to its
-- end
pub data IsInSink (bytes : List ℕ) (counts : SinkCounts) : Type 0 where
  Whole : (events taken torn : ℕ) (newest : Option Instant)
      → CountsEvents bytes events taken torn newest → counts ≡ file_of events taken torn newest
      → IsInSink bytes counts
  Long : EndsLong bytes → counts ≡ damaged_file → IsInSink bytes counts
  Partly : counts ≡ unread_file → IsInSink bytes counts
