-- What pieces have.
use Rattle.std.specs.Prelude.{ℕ, ◌+◌, ◌<◌, ◌≤◌, ◌^◌, List, ◌++◌, length, take, drop, sum_by}
use Rattle.std.specs.List.{AllByRecursion, flat_map}
use Rattle.chunk_journal.specs.Places.{IsWithin, bytes_at}
use Rattle.chunk_journal.specs.declared.places.Extent.{Extent}
use Rattle.file_pieces.specs.declared.piece.Piece.{Piece}

-- so many of these bytes from a place on
abbrev pub part_of : List ℕ → ℕ → ℕ → List ℕ
part_of seen at count = take count (drop at seen)

-- these bytes have so many from a place on, and the end of these is a number of 64 bits
abbrev pub HasPart : List ℕ → ℕ → ℕ → Type 0
HasPart seen at count = (at + count ≤ length seen) × (at + count < 2 ^ 64)

-- the file, whose bytes are seen, has what lies at these places
abbrev pub CanTake : List ℕ → List Extent → Type 0
CanTake seen places = (length seen < 2 ^ 64) × AllByRecursion (IsWithin (length seen)) places

-- how many bytes there are at these places
abbrev pub places_room : List Extent → ℕ
places_room places = sum_by (λ place. place.length) places

-- what is told, and behind it what the other file has, whose bytes are seen
abbrev pub piece_bytes : {A : Type 0} → List ℕ → Piece A → List ℕ
piece_bytes seen piece = piece.told.items ++ bytes_at seen piece.places.now

-- the bytes of the pieces, one behind another
abbrev pub pieces_bytes : {A : Type 0} → List ℕ → List (Piece A) → List ℕ
pieces_bytes seen pieces = flat_map (piece_bytes seen) pieces

-- how many bytes a piece has
abbrev pub piece_room : {A : Type 0} → Piece A → ℕ
piece_room piece = length piece.told.items + places_room piece.places.now

-- how many bytes the pieces have together
abbrev pub total_room : {A : Type 0} → List (Piece A) → ℕ
total_room pieces = sum_by piece_room pieces

-- the other file has what each piece takes from it
abbrev pub AreWithin : {A : Type 0} → List ℕ → List (Piece A) → Type 0
AreWithin seen pieces = AllByRecursion (λ piece. CanTake seen piece.places.now) pieces
