-- What is said of the outputs of a relay that have buffers.
use Rattle.std.specs.Prelude.{ℕ, ◌+◌, ◌-◌, ◌^◌, ◌==◌, List, ◌++◌, map, min, fold, Option, Some, None, codes, slice_range, string_bytes, if◌then◌else◌}
use Rattle.std.specs.List.{count_by, flat_map, zip}
use Rattle.output_state.specs.Rows.{head_text, row_text}
use Rattle.output_state.specs.State.{StateView}
use Rattle.output_state.specs.declared.state.OutputCounts.{OutputCounts}
use Rattle.relay_conf.specs.declared.buffer.BufferKind.{BufferKind}
use Rattle.relay_conf.specs.declared.buffer.BufferKind.TheVariants.{File, Memory}
use Rattle.relay_conf.specs.declared.buffer.BufferSettings.{BufferSettings}
use Rattle.relay_conf.specs.declared.output.Output.{Output}
use Rattle.relay_notices.specs.declared.slot.Tally.{Tally}
use Rattle.relay_places.specs.declared.places.Carriers.{Carriers}
use Rattle.relay_places.specs.Outputs.{line_of, settings_of}

-- what is said of an output, and the places of its carriers
pub record RowView : Type 0 where
  pub state : StateView
  pub span : Carriers

-- the path of a buffer's files, or `*` where it is in memory
abbrev pub kind_word : {A : Type 0} → BufferKind A → List ℕ
kind_word Memory = codes "*"
kind_word (File path) = string_bytes path

-- the same of an output's buffer; `*` where it has none
abbrev pub buffer_word : {A : Type 0} → Option (BufferSettings A) → List ℕ
buffer_word None = codes "*"
buffer_word (Some settings) = kind_word settings.kind

-- how many bytes an output's buffer takes; 0 where it has none
abbrev pub limit_of : {A : Type 0} → Option (BufferSettings A) → ℕ
limit_of None = 0
limit_of (Some settings) = settings.total_limit_size

-- of a buffer with this limit nothing was told
abbrev pub nothing_told : ℕ → OutputCounts
nothing_told limit =
    record { limit = limit; failing = 0; failures = 0; delivered = 0; last = 0 }

-- the row of an output with carriers at these places, of which nothing was told
abbrev pub first_row : {A : Type 0} → Output A → Carriers → RowView
first_row found span = record {
  state = record {
    line = line_of found;
    buffer = buffer_word (settings_of found);
    counts = nothing_told (limit_of (settings_of found));
  };
  span = span;
}

-- the rows of these outputs, each with the places of its own carriers
abbrev pub first_rows : {A : Type 0} → List (Output A) → List Carriers → List RowView
first_rows outputs spans = map (λ p. first_row p.0 p.1) (zip outputs spans)

-- the sum of these numbers, as far as 64 bits go
abbrev pub total : List ℕ → ℕ
total numbers = fold (λ sum n. min (sum + n) (2 ^ 64 - 1)) 0 numbers

-- how many of these fail
abbrev pub failing_in : List Tally → ℕ
failing_in tallies = count_by (λ tally. tally.is_failing) tallies

-- the counts of an output whose carriers have these tallies, and of which those counts were said
-- before
abbrev pub counts_with : List Tally → ℕ → OutputCounts → OutputCounts
counts_with tallies second before = record {
  limit = before.limit;
  failing = failing_in tallies;
  failures = total (map (λ tally. tally.failures) tallies);
  delivered = total (map (λ tally. tally.works) tallies);
  last = if total (map (λ tally. tally.works) tallies) == before.delivered
      then before.last else second;
}

-- the tallies of the places of a span, where there are such
abbrev pub tallies_in : Carriers → List Tally → List Tally
tallies_in span tallies = slice_range tallies span.first span.end

-- an output's row once its carriers' tallies are counted in this second
abbrev pub counted : List Tally → ℕ → RowView → RowView
counted tallies second row = record {
  state = record {
    line = row.state.line;
    buffer = row.state.buffer;
    counts = counts_with (tallies_in row.span tallies) second row.state.counts;
  };
  span = row.span;
}

-- the first line and the rows
abbrev pub rows_text : List RowView → List ℕ
rows_text rows = head_text ++ flat_map row_text (map (λ row. row.state) rows)
