-- What a relay that runs says of its outputs: where, and how that is printed.
use Rattle.std.specs.Prelude.{ℕ, ℤ, pos, ◌≡◌, ◌==◌, ◌*◌, ◌/◌, ◌&&◌, cond, List, [], ◌∷◌, ◌++◌, bytes_eq, codes, decimal, find, fold, map, Option, Some, None, IfSome, option_and_then, unwrap_or, if◌then◌else◌}
use Rattle.std.specs.List.{flat_map, AllByRecursion}
use Rattle.std.specs.Option.{option_map_or}
use Rattle.conf_values.specs.Words.{is_path}
use Rattle.json.specs.Token.{Token, begin_object, end_object, end_array, key, string, null}
use Rattle.output_state.specs.Rows.{states_in}
use Rattle.output_state.specs.State.{StateView}
use Rattle.output_state.specs.declared.state.OutputCounts.{OutputCounts}
use Rattle.program_text.specs.Lines.{line}
use Rattle.program_text.specs.Texts.{IsTextOf}
use Rattle.folder_counts.specs.Instants.{IsSameTime}
use Rattle.folder_counts.specs.Limits.{chunks_in, is_sound}
use Rattle.folder_counts.specs.Lines.{time_field}
use Rattle.folder_counts.specs.Metrics.{head_lines, sample_line, seconds_at}
use Rattle.folder_counts.specs.Object.{with_list, with_number, with_time}
use Rattle.folder_counts.specs.Times.{second}
use Rattle.folder_counts.specs.Views.{BufferView, OutputView}
use Rattle.folder_counts.specs.declared.outputs_metrics.OutputMetric.{OutputMetric}
use Rattle.folder_counts.specs.declared.outputs_metrics.OutputMetric.TheVariants.{Limit, Failing, Failures, Delivered, Last}
use Rattle.folder_counts.specs.declared.pieces.Piece.{Piece}
use Rattle.folder_counts.specs.declared.pieces.Piece.TheVariants.{Number}

-- ---- where it is said

-- the name of the file
abbrev pub state_name : List ℕ
state_name = codes "relay.status"

-- the time of a delivery, in nanoseconds, that was so many seconds after the beginning of 1970;
-- where 0 is said, there was none
abbrev pub delivery_time : ℕ → Option ℤ
delivery_time seconds = cond (seconds == 0) None (Some (pos (seconds * second)))

-- the last delivery of an output was when it is said
abbrev pub IsTimed : OutputView → Type 0
IsTimed output = IsSameTime (delivery_time output.state.counts.last) output.last

-- the outputs that a text says, in its order, each with the time of its last delivery
pub record AreOutputsIn (text : List ℕ) (outputs : List OutputView) : Type 0 where
  pub states_are : map (λ output. output.state) outputs ≡ states_in text
  pub times_are : AllByRecursion IsTimed outputs

-- the outputs of what was read: those of the text, or none
abbrev pub AreOutputsOf : Option (List ℕ) → List OutputView → Type 0
AreOutputsOf None outputs = outputs ≡ []
AreOutputsOf (Some text) outputs = AreOutputsIn text outputs

-- The outputs of a folder's relay: those that the text of its file says; none where that isn't read.
pub record AreOutputs (known : Option (List ℕ)) (outputs : List OutputView) : Type 0 where
  pub read : Option (List ℕ)
  pub is_read : IfSome read (IsTextOf known)
  pub are : AreOutputsOf read outputs

-- ---- how full the buffers are

-- the path that the word for a buffer is; none where the buffer is in memory
abbrev pub path_of : List ℕ → Option (List ℕ)
path_of word = if is_path word then Some word else None

-- the buffer of this path, where its journal is read and not damaged
abbrev pub sound_buffer : List BufferView → List ℕ → Option BufferView
sound_buffer buffers path =
    find (λ buffer. bytes_eq buffer.path path && is_sound buffer.found) buffers

-- how many percent of a limit so many bytes are, rounded down; of a limit of 0 nothing is
abbrev pub percent_of : ℕ → ℕ → Option ℕ
percent_of bytes limit = cond (limit == 0) None (Some (bytes * 100 / limit))

-- how many percent of its limit the buffer of an output holds; nothing is known where it is in
-- memory, or the folder has no such buffer
unfoldable pub used_of : List BufferView → StateView → Option ℕ
used_of buffers state =
    option_and_then (λ buffer. percent_of (chunks_in buffer.found).bytes state.counts.limit)
    (option_and_then (sound_buffer buffers) (path_of state.buffer))

-- ---- lines

-- a word and a number; nothing where there is none
abbrev pub number_field : List ℕ → Option ℕ → List ℕ
number_field word number = option_map_or (λ n. word ++ decimal n) number []

-- the beginning of an output's line: where it stands, its buffer, and the limit of that
abbrev pub place_field : StateView → List ℕ
place_field state = codes "output " ++ decimal state.line ++ codes " buffer " ++ state.buffer
    ++ codes " limit " ++ decimal state.counts.limit

-- a text, and behind it what failed and what was delivered
abbrev pub with_deliveries : List ℕ → OutputCounts → List ℕ
with_deliveries text counts = text ++ codes " failing " ++ decimal counts.failing
    ++ codes " failures " ++ decimal counts.failures ++ codes " delivered "
    ++ decimal counts.delivered

-- the line of an output
abbrev pub output_line : List BufferView → OutputView → List ℕ
output_line buffers output =
    line (with_deliveries (place_field output.state ++ number_field (codes " used ")
    (used_of buffers output.state)) output.state.counts
    ++ time_field (codes " last delivery ") output.last)

-- ---- a JSON object

-- a member whose value is the path of a buffer; null where it is in memory
abbrev pub with_path : List Token → Option (List ℕ) → List Token
with_path tokens path = (tokens ++ key (codes "buffer") ∷ []) ++ option_map_or string path null ∷ []

-- a member whose value is a number; nothing where there is none
abbrev pub with_some : List Token → List ℕ → Option ℕ → List Token
with_some tokens name number = option_map_or (with_number tokens name) number tokens

-- the members of where an output stands, its buffer, and the limit of that
abbrev pub with_place : List Token → StateView → List Token
with_place tokens state =
    with_number (with_path (with_number tokens (codes "line") state.line) (path_of state.buffer))
    (codes "limit") state.counts.limit

-- the members of what failed, what was delivered, and when the last delivery was
abbrev pub with_tries : List Token → OutputView → List Token
with_tries tokens output =
    with_time
    (with_number (with_number (with_number tokens (codes "failing") output.state.counts.failing)
    (codes "failures") output.state.counts.failures)
    (codes "delivered") output.state.counts.delivered)
    (codes "last_delivery") output.last

-- the members of an output
unfoldable pub with_members : List BufferView → List Token → OutputView → List Token
with_members buffers tokens output =
    with_tries (with_some (with_place tokens output.state) (codes "used")
    (used_of buffers output.state)) output

-- the object of an output
abbrev pub with_output : List BufferView → List Token → OutputView → List Token
with_output buffers tokens output = with_members buffers (tokens ++ begin_object ∷ []) output
    ++ end_object ∷ []

-- the member of these outputs; nothing where there are none
abbrev pub with_outputs : List Token → List BufferView → List OutputView → List Token
with_outputs tokens buffers [] = tokens
with_outputs tokens buffers (first ∷ more) = fold (with_output buffers)
    (with_list tokens (codes "outputs")) (first ∷ more) ++ end_array ∷ []

-- ---- samples

-- the name of a metric
abbrev pub output_name : OutputMetric → List ℕ
output_name Limit = codes "relaynet_output_limit_bytes"
output_name Failing = codes "relaynet_output_failing"
output_name Failures = codes "relaynet_output_failures_total"
output_name Delivered = codes "relaynet_output_delivered_chunks_total"
output_name Last = codes "relaynet_output_last_delivery_timestamp_seconds"

-- what it is
abbrev pub output_help : OutputMetric → List ℕ
output_help Limit = codes "Bytes that the buffer takes."
output_help Failing = codes "Servers of the output that failed when last tried; of a sink 0 or 1."
output_help Failures =
    codes "How often a delivery failed, or a server couldn't be reached, since the relay started."
output_help Delivered = codes "Chunks that were delivered since the relay started."
output_help Last =
    codes
    "Time of the last delivery since the relay started, in seconds since the beginning of 1970."

-- its type: a counter begins anew where the relay does
abbrev pub output_type : OutputMetric → List ℕ
output_type Limit = codes "gauge"
output_type Failing = codes "gauge"
output_type Failures = codes "counter"
output_type Delivered = codes "counter"
output_type Last = codes "gauge"

-- what its sample says of an output
abbrev pub output_figure : OutputMetric → OutputView → Option Piece
output_figure Limit output = Some (Number output.state.counts.limit)
output_figure Failing output = Some (Number output.state.counts.failing)
output_figure Failures output = Some (Number output.state.counts.failures)
output_figure Delivered output = Some (Number output.state.counts.delivered)
output_figure Last output = seconds_at output.last

-- the labels of an output, up to the quote in front of the value of the last one
abbrev pub output_labels : ℕ → List ℕ
output_labels at = codes "{line=" ++ 34 ∷ [] ++ decimal at ++ 34 ∷ [] ++ codes ",buffer=" ++ 34 ∷ []

-- its sample of an output; nothing where it says nothing
abbrev pub output_sample : OutputMetric → OutputView → List ℕ
output_sample metric output =
    option_map_or (λ says. sample_line (output_name metric) (output_labels output.state.line)
    (unwrap_or (path_of output.state.buffer) []) says) (output_figure metric output) []

-- a metric of outputs
abbrev pub output_family : OutputMetric → List OutputView → List ℕ
output_family metric outputs = head_lines (output_name metric) (output_help metric)
    (output_type metric) ++ flat_map (output_sample metric) outputs

-- a text, and behind it the metrics of these outputs
abbrev pub with_families : List ℕ → List OutputView → List ℕ
with_families text outputs = text ++ flat_map (λ metric. output_family metric outputs)
    (Limit ∷ Failing ∷ Failures ∷ Delivered ∷ Last ∷ [])

-- the same; nothing behind it where there are no outputs
abbrev pub with_samples : List ℕ → List OutputView → List ℕ
with_samples text [] = text
with_samples text (first ∷ more) = with_families text (first ∷ more)
