-- Outputs as rows of a text.
use Rattle.std.specs.Prelude.{ℕ, ◌-◌, ◌==◌, ◌||◌, Bool, nat_eq, List, [], ◌∷◌, ◌++◌, length, map, take, drop, Option, Some, None, codes, decimal, if◌then◌else◌}
use Rattle.std.specs.List.{filter_map, join_with_byte, slice_split, starts_with}
use Rattle.std.specs.Str.{bytes_eq}
use Rattle.conf_values.specs.Numbers.{number_of}
use Rattle.conf_values.specs.Words.{is_path}
use Rattle.output_state.specs.State.{StateView}
use Rattle.output_state.specs.declared.state.OutputCounts.{OutputCounts}

-- the words of the columns
abbrev pub head_line : List ℕ
head_line = codes "line buffer total_limit_size failing failures delivered last_delivery"

-- the first line, and a line feed
abbrev pub head_text : List ℕ
head_text = head_line ++ 10 ∷ []

-- the numbers of an output, in the order of their columns
abbrev pub numbers_in : OutputCounts → List ℕ
numbers_in c = c.limit ∷ c.failing ∷ c.failures ∷ c.delivered ∷ c.last ∷ []

-- the words of an output's row
abbrev pub row_words : StateView → List (List ℕ)
row_words state = decimal state.line ∷ state.buffer ∷ map decimal (numbers_in state.counts)

-- the row of an output: its words, with a space between each two, and a line feed
abbrev pub row_text : StateView → List ℕ
row_text state = join_with_byte 32 (row_words state) ++ 10 ∷ []

-- the word is a path, or `*`
abbrev pub is_buffer : List ℕ → Bool
is_buffer word = is_path word || bytes_eq word (codes "*")

-- these numbers, where there are all
abbrev pub counts_from : Option ℕ → Option ℕ → Option ℕ → Option ℕ → Option ℕ → Option OutputCounts
counts_from (Some a) (Some b) (Some c) (Some d) (Some e) =
    Some (record { limit = a; failing = b; failures = c; delivered = d; last = e })
counts_from a b c d e = None

-- the numbers that these words spell, where each spells one
abbrev pub counts_of : List ℕ → List ℕ → List ℕ → List ℕ → List ℕ → Option OutputCounts
counts_of a b c d e =
    counts_from (number_of a) (number_of b) (number_of c) (number_of d) (number_of e)

-- the output with this buffer's word and these numbers, where there are all
abbrev pub state_from : Option ℕ → List ℕ → Option OutputCounts → Option StateView
state_from (Some n) buffer (Some c) = Some (record { line = n; buffer = buffer; counts = c })
state_from n buffer c = None

-- the output of these words, where they are seven, all but the second are numbers, and the second
-- is a path or `*`
abbrev pub state_of_words : List (List ℕ) → Option StateView
state_of_words (line ∷ buffer ∷ limit ∷ failing ∷ failures ∷ delivered ∷ last ∷ []) =
    if is_buffer buffer
    then state_from (number_of line) buffer (counts_of limit failing failures delivered last)
    else None
state_of_words words = None

-- the words of a line: what stands between its spaces
abbrev pub words_of : List ℕ → List (List ℕ)
words_of line = slice_split (λ b. b == 32) line

-- the output of a line; none where it is no row
abbrev pub state_of : List ℕ → Option StateView
state_of line = state_of_words (words_of line)

-- these without the last one
abbrev pub without_last : List (List ℕ) → List (List ℕ)
without_last pieces = take (length pieces - 1) pieces

-- the lines of a text that end with a line feed: what stands between its line feeds, and before the
-- first one, but not what stands behind the last one
abbrev pub whole_lines : List ℕ → List (List ℕ)
whole_lines text = without_last (slice_split (λ b. b == 10) text)

-- the outputs of the lines of a text that end with a line feed and are rows
abbrev pub rows_in : List ℕ → List StateView
rows_in text = filter_map state_of (whole_lines text)

-- the outputs of a text: those of the rows behind its first line; none where it begins otherwise
abbrev pub states_in : List ℕ → List StateView
states_in text =
    if starts_with nat_eq text head_text then rows_in (drop (length head_text) text) else []
