-- Buffers and sinks, by their files.
use Rattle.std.specs.Prelude.{ℕ, ◌&&◌, ◌||◌, not, Bool, true, false, List, [], ◌∷◌, ◌++◌, bytes_eq, nat_lt, position, slice_set, slice_index_or, if◌then◌else◌}
use Rattle.std.specs.Option.{option_map_or}
use Rattle.folder_counts.specs.Counts.{sinks_sum}
use Rattle.folder_counts.specs.Views.{BufferView, SinkView}
use Rattle.folder_counts.specs.declared.buffers.Found.{Found}
use Rattle.folder_counts.specs.declared.buffers.Found.TheVariants.{Chunks, Unsealed, Damaged, Unread}

-- a journal's whole records end before a Seal
abbrev pub is_unsealed : Found → Bool
is_unsealed (Chunks chunks torn next oldest) = false
is_unsealed Unsealed = true
is_unsealed Damaged = false
is_unsealed Unread = false

-- of two generations of a buffer the first counts: it isn't unsealed, and the other is, or has a
-- smaller number
abbrev pub outranks : BufferView → BufferView → Bool
outranks next held = not (is_unsealed next.found)
    && (is_unsealed held.found || nat_lt held.number next.number)

-- the one of both that counts
abbrev pub newer : BufferView → BufferView → BufferView
newer held next = if outranks next held then next else held

-- Parts that have paths, of each path one, with one more: it is joined to the one that has its
-- path, and else stands behind all.
abbrev pub with_part : {X : Type 0} → (X → List ℕ) → (X → X → X) → List X → X → List X
with_part path both held next =
    option_map_or (λ i. slice_set held i (both (slice_index_or held i next) next))
    (position (λ one. bytes_eq (path one) (path next)) held) (held ++ next ∷ [])

-- buffers with one generation more
abbrev pub buffers_with : List BufferView → BufferView → List BufferView
buffers_with = with_part (λ buffer. buffer.path) newer

-- a sink with the files of another: the one of the greatest number is the newest
abbrev pub joined : SinkView → SinkView → SinkView
joined held next = record {
  path = held.path;
  newest = if nat_lt held.number next.number then next.newest else held.newest;
  number = if nat_lt held.number next.number then next.number else held.number;
  counts = sinks_sum held.counts next.counts;
}

-- sinks with the files of one more
abbrev pub sinks_with : List SinkView → SinkView → List SinkView
sinks_with = with_part (λ sink. sink.path) joined
