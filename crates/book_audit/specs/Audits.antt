-- When stubs account for a book.
use Rattle.std.specs.Prelude.{ℕ, ◌≡◌, ◌≢◌, ◌+◌, ◌<◌, ◌==◌, ◌&&◌, ◌⊎◌, Bool, List, map, filter, All, AllPairs, Any, Contains, Option, None, Some, IfSome, IsSome, slice_get}
use Rattle.std.specs.List.{flat_map}
use Rattle.std.specs.Map.{lookup}
use Rattle.book_audit.specs.declared.line.Leaf.{Leaf}
use Rattle.book_audit.specs.declared.line.Line.{Line}
use Rattle.book_audit.specs.declared.line.Part.{Part}
use Rattle.book_audit.specs.Stubs.{Left}

-- The lines of a book: how many were written, those that are still open under their numbers, and
-- for how many more there is room.
pub record Pages : Type 0 where
  pub count : ℕ
  pub lines : List (ℕ × Line)
  pub room : ℕ

-- the open line of this number
abbrev pub open_at : Pages → ℕ → Option Line
open_at pages number = lookup (λ key. number == key) pages.lines

-- the line of this number is open
abbrev pub IsOpen : Pages → ℕ → Type 0
IsOpen pages number = IsSome (open_at pages number)

-- whether the part is one of this buffer
abbrev pub is_of : Leaf → Part → Bool
is_of leaf part = (part.relay == leaf.relay) && (part.buffer == leaf.buffer)

-- the parts of this buffer that a stub holds
abbrev pub parts_of : Leaf → Left → List Part
parts_of leaf stub = filter (is_of leaf) stub.parts

-- the part names a line of the book: one that was written, and where it is open, the append of this
-- delivery to the part's chunk
abbrev pub IsInBook : Pages → ℕ → Part → Type 0
IsInBook pages delivery part = (part.line < pages.count) × IfSome (open_at pages part.line)
    (λ line. (line.delivery ≡ delivery) × (line.serial ≡ part.serial))

-- a stub's parts of this buffer are in the book
abbrev pub AreInBook : Leaf → Pages → Left → Type 0
AreInBook leaf pages stub = All (IsInBook pages stub.delivery) (parts_of leaf stub)

-- some part of this buffer isn't in the book
abbrev pub HasStranger : Leaf → Pages → List Left → Type 0
HasStranger leaf pages stubs =
    Any (λ stub. Any (λ part. ¬ IsInBook pages stub.delivery part) (parts_of leaf stub)) stubs

-- the lines of the book that parts of this buffer name, in order
abbrev pub lines_of : Leaf → List Part → List ℕ
lines_of leaf parts = map (λ part. part.line) (filter (is_of leaf) parts)

-- the lines of the book that stubs name, in order
abbrev pub lines_named : Leaf → List Left → List ℕ
lines_named leaf stubs = flat_map (λ stub. lines_of leaf stub.parts) stubs

-- each line that is named is open, and no line is named twice
pub record AreOpenOnce (pages : Pages) (named : List ℕ) : Type 0 where
  pub each : All (IsOpen pages) named
  pub once : AllPairs (λ first second. first ≢ second) named

-- a line is named at two places
pub record IsTwice (named : List ℕ) : Type 0 where
  pub line : ℕ
  pub first : ℕ
  pub second : ℕ
  pub in_order : first < second
  pub one : slice_get named first ≡ Some line
  pub other : slice_get named second ≡ Some line

-- a line is named again: it isn't open any more, or it is named at two places
abbrev pub IsAgain : Pages → List ℕ → Type 0
IsAgain pages named = Any (λ line. open_at pages line ≡ None) named ⊎ IsTwice named

-- an open line of the book isn't named
pub record IsLeftOut (pages : Pages) (named : List ℕ) : Type 0 where
  pub line : ℕ
  pub there : IsOpen pages line
  pub unnamed : ¬ Contains named line

-- The stubs account for the book of this buffer: each of their parts of it is in the book, each
-- line that they name is open and named once, and each open line is named.
pub record Accounts (leaf : Leaf) (pages : Pages) (stubs : List Left) : Type 0 where
  pub known : All (AreInBook leaf pages) stubs
  pub named : AreOpenOnce pages (lines_named leaf stubs)
  pub covered : (line : ℕ) → IsOpen pages line → Contains (lines_named leaf stubs) line

-- A stub settles lines of the book of this buffer: each of its parts of it is in the book, and each
-- line that it names is open and named once.
pub record Settles (leaf : Leaf) (pages : Pages) (stub : Left) : Type 0 where
  pub known : AreInBook leaf pages stub
  pub named : AreOpenOnce pages (lines_of leaf stub.parts)

-- The lines that are named are closed, and no other.
pub record Closes (named : List ℕ) (old new : Pages) : Type 0 where
  pub count : new.count ≡ old.count
  pub gone : All (λ line. open_at new line ≡ None) named
  pub kept : (line : ℕ) → ¬ Contains named line → open_at new line ≡ open_at old line

-- the same lines were written, and the same are open
pub record SameLines (old new : Pages) : Type 0 where
  pub count : new.count ≡ old.count
  pub each : (line : ℕ) → open_at new line ≡ open_at old line

-- the book has one line more
pub record Writes (line : Line) (old new : Pages) : Type 0 where
  pub count : new.count ≡ old.count + 1
  pub new_line : open_at new old.count ≡ Some line
  pub kept : (number : ℕ) → number ≢ old.count → open_at new number ≡ open_at old number
