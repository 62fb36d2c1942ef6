-- That the outputs which were written are read.
use Rattle.std.specs.Prelude.{◌≡◌, ◌<◌, ◌^◌, ◌++◌, true, List}
use Rattle.std.specs.List.{All, flat_map}
use Rattle.output_state.specs.State.{StateView}
use Rattle.output_state.specs.Rows.{head_text, is_buffer, numbers_in, row_text, states_in}

-- An output that a row says: its buffer is a path or `*`, and its numbers are below 2 to the 64th.
pub record HasRow (state : StateView) : Type 0 where
  pub line_fits : state.line < 2 ^ 64
  pub buffer_is : is_buffer state.buffer ≡ true
  pub counts_fit : All (λ n. n < 2 ^ 64) (numbers_in state.counts)

-- In a text of the first line and the rows of outputs exactly these are read, in their order.
abbrev pub AreReadBack : Type 0
AreReadBack = (states : List StateView) → All HasRow states
    → states_in (head_text ++ flat_map row_text states) ≡ states
