-- Places that lie so near one another that they are read at once. (Words of private functions.)
use Rattle.std.specs.Prelude.{ℕ, ◌+◌, ◌<◌, ◌≤◌, List, length}
use Rattle.std.specs.List.{AllByRecursion}
use Rattle.chunk_journal.specs.Places.{IsWithin}
use Rattle.chunk_journal.specs.declared.places.Extent.{Extent}
use Rattle.file_pieces.specs.Pieces.{places_room}
use Rattle.file_pieces.specs.declared.runs.Run.{Run}

-- a place lies in the span of so many bytes that begins there
abbrev pub LiesIn : ℕ → ℕ → Extent → Type 0
LiesIn at span place = (at ≤ place.at) × (place.at + place.length ≤ at + span)

-- These places lie in this span. It has at least as many bytes as they have together, and ends
-- within whatever they are all within.
pub record LieInSpan (at span : ℕ) (places : List Extent) : Type 0 where
  pub lie : AllByRecursion (LiesIn at span) places
  pub room : places_room places ≤ span
  pub reach : (count : ℕ) → AllByRecursion (IsWithin count) places → at + span ≤ count

-- one place, or several that lie in a span of at most so many bytes
pub record IsRun (most : ℕ) (run : Run) : Type 0 where
  pub some : 0 < length run.places.now
  pub span : LieInSpan run.at run.span run.places.now
  pub small : 1 < length run.places.now → run.span ≤ most
