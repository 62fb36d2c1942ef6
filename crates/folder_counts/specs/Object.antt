-- Buffers and sinks in a JSON object (RFC 8259): the tokens of its text.
use Rattle.std.specs.Prelude.{ℕ, ◌≡◌, cond, List, [], ◌∷◌, ◌++◌, codes, decimal, fold, Option}
use Rattle.std.specs.Option.{option_map_or}
use Rattle.json.specs.Token.{Token, begin_object, end_object, begin_array, end_array, key, string, number}
use Rattle.json.specs.Written.{Written}
use Rattle.folder_counts.specs.Limits.{age_in, chunks_in, chunks_of, is_above, most_age, oldest_in}
use Rattle.folder_counts.specs.Lines.{total_of}
use Rattle.folder_counts.specs.Times.{seconds_text}
use Rattle.folder_counts.specs.Views.{BufferView, SinkView}
use Rattle.folder_counts.specs.declared.buffers.Found.{Found}
use Rattle.folder_counts.specs.declared.buffers.Found.TheVariants.{Chunks, Unsealed, Damaged, Unread}
use Rattle.folder_counts.specs.declared.counts.ChunkCounts.{ChunkCounts}
use Rattle.folder_counts.specs.declared.counts.SinkCounts.{SinkCounts}
use Rattle.folder_counts.specs.declared.instant.Instant.{Instant}
use Rattle.folder_counts.specs.declared.limits.Limits.{Limits}
use Rattle.folder_counts.specs.declared.object.Member.{Member}
use Rattle.folder_counts.specs.declared.object.Member.TheVariants.{Begin, Number, Word, End}

-- a writer has these tokens now, behind what it had before all of them
pub record Becomes (old new : Written) (tokens : List Token) : Type 0 where
  pub before : new.before ≡ old.before
  pub tokens_are : new.tokens ≡ tokens

-- tokens, and behind them a member whose value is a number
abbrev pub with_number : List Token → List ℕ → ℕ → List Token
with_number tokens name value = (tokens ++ key name ∷ []) ++ number (decimal value) ∷ []

-- a member whose value is a text
abbrev pub with_word : List Token → List ℕ → List ℕ → List Token
with_word tokens name word = (tokens ++ key name ∷ []) ++ string word ∷ []

-- tokens, and behind them what an object is written of
abbrev pub with_member : List Token → Member → List Token
with_member tokens Begin = tokens ++ begin_object ∷ []
with_member tokens (Number name value) = with_number tokens name.now value
with_member tokens (Word name word) = with_word tokens name.now word.now
with_member tokens End = tokens ++ end_object ∷ []

-- the beginning of a member whose value is a list
abbrev pub with_list : List Token → List ℕ → List Token
with_list tokens name = (tokens ++ key name ∷ []) ++ begin_array ∷ []

-- the beginning of an object that has a name
abbrev pub with_name : List Token → List ℕ → List Token
with_name tokens name = with_word (tokens ++ begin_object ∷ []) (codes "name") name

-- the members of what chunks count to
abbrev pub with_chunks : List Token → ChunkCounts → List Token
with_chunks tokens chunks =
    with_number (with_number (with_number (with_number tokens (codes "staged") chunks.staged)
    (codes "queued") chunks.queued) (codes "entries") chunks.entries)
    (codes "bytes") chunks.bytes

-- the word for what is found in a journal
abbrev pub state_word : Found → List ℕ
state_word (Chunks chunks torn next oldest) = codes "whole"
state_word Unsealed = codes "unsealed"
state_word Damaged = codes "damaged"
state_word Unread = codes "unread"

-- a member whose value is an instant, in seconds since the beginning of 1970; nothing where there
-- is none
abbrev pub with_time : List Token → List ℕ → Option Instant → List Token
with_time tokens name instant =
    option_map_or (λ at. (tokens ++ key name ∷ []) ++ number (seconds_text at.nanos) ∷ []) instant
    tokens

-- the members of the numbers that are found in a journal, where it is whole
abbrev pub with_numbers : List Token → Found → List Token
with_numbers tokens (Chunks chunks torn next oldest) =
    with_time (with_number (with_number (with_chunks tokens chunks) (codes "torn") torn)
    (codes "next") next) (codes "oldest_event") oldest
with_numbers tokens Unsealed = tokens
with_numbers tokens Damaged = tokens
with_numbers tokens Unread = tokens

-- the members of what is found in a journal
abbrev pub with_found : List Token → Found → List Token
with_found tokens found = with_numbers (with_word tokens (codes "state") (state_word found)) found

-- the object of a buffer
abbrev pub with_buffer : List Token → BufferView → List Token
with_buffer tokens buffer = with_found (with_name tokens buffer.path) buffer.found
    ++ end_object ∷ []

-- the member of these buffers
abbrev pub with_buffers : List Token → List BufferView → List Token
with_buffers tokens buffers =
    fold with_buffer (with_list tokens (codes "buffers")) buffers
    ++ end_array ∷ []

-- the members of what files of a sink count to
abbrev pub with_counts : List Token → SinkCounts → List Token
with_counts tokens counts =
    with_number
    (with_number
    (with_number (with_number (with_number (with_number tokens (codes "files") counts.files)
    (codes "events") counts.events) (codes "bytes") counts.bytes) (codes "torn") counts.torn)
    (codes "damaged") counts.damaged) (codes "unread") counts.unread

-- the members of a sink's newest file, and of its newest event
abbrev pub with_newest : List Token → SinkView → List Token
with_newest tokens sink = with_time (with_word tokens (codes "newest") sink.newest)
    (codes "newest_event") sink.counts.newest_event

-- the object of a sink
abbrev pub with_sink : List Token → SinkView → List Token
with_sink tokens sink = with_newest (with_counts (with_name tokens sink.path) sink.counts) sink
    ++ end_object ∷ []

-- the member of these sinks
abbrev pub with_sinks : List Token → List SinkView → List Token
with_sinks tokens sinks =
    fold with_sink (with_list tokens (codes "sinks")) sinks
    ++ end_array ∷ []

-- the member of what these buffers hold together
abbrev pub with_total : List Token → List BufferView → List Token
with_total tokens buffers = with_chunks ((tokens ++ key (codes "total") ∷ []) ++ begin_object ∷ [])
    (total_of buffers) ++ end_object ∷ []

-- the object of a number of a buffer that is above its limit; nothing of another
abbrev pub with_above : List Token → List ℕ → List ℕ → Option ℕ → ℕ → List Token
with_above tokens name word most value = cond (is_above most value)
    (with_number (with_name tokens name) word value ++ end_object ∷ []) tokens

-- the objects of the limits that a buffer is above
abbrev pub with_over : Limits → List Token → BufferView → List Token
with_over limits tokens buffer =
    with_above
    (with_above (with_above tokens buffer.path (codes "bytes") limits.bytes
    (chunks_in buffer.found).bytes) buffer.path (codes "chunks") limits.chunks
    (chunks_of (chunks_in buffer.found)))
    buffer.path (codes "age") (most_age limits) (age_in limits (oldest_in buffer.found))

-- the member of the limits that these buffers are above
abbrev pub with_overs : List Token → Limits → List BufferView → List Token
with_overs tokens limits buffers = fold (with_over limits)
    (with_list tokens (codes "over")) buffers ++ end_array ∷ []
