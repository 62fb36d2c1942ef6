-- The book of a buffer's appends.
use Rattle.std.specs.Prelude.{ℕ, ◌≡◌, ◌≢◌, ◌+◌, ◌*◌, ◌-◌, ◌^◌, ◌<◌, ◌≤◌, ◌↔◌, ◌⊎◌, Bool, true, false, List, ◌∷◌, [], ◌++◌, map, filter, sum_by, length, Option, Some, IfSome, IsSome, IsSomeAnd, Contains, All, AllPairs, slice_get, Result, Ok, Err, OnErr}
use Rattle.std.specs.Option.{option_map_or}
use Rattle.std.specs.Map.{lookup}
use Rattle.std.specs.Ordering.{nat_cmp}
use Rattle.std.specs.BTreeMap.{is_at}
use Rattle.buffer_state.specs.State.{State, chunk_at, total_size}
use Rattle.book_audit.specs.declared.line.Line.{Line}
use Rattle.book_audit.specs.declared.line.Leaf.{Leaf}
use Rattle.book_audit.specs.Audits.{Pages, SameLines, Writes, open_at}
use Rattle.event_modes.specs.Message.{longest_tag}
use Rattle.buffer_state.specs.Steps.{appended, planned, removed}
use Rattle.buffer_state.specs.declared.limits.AppendFault.{AppendFault}
use Rattle.buffer_store.specs.Logs.{Flags}
use Rattle.buffer_store.specs.Refusals.{of_plan}
use Rattle.buffer_store.specs.declared.fault.BufferFault.{BufferFault}
use Rattle.buffer_store.specs.Buffers.{Held}
use Rattle.ack_receipt.specs.declared.past.Written.{Written}

-- A buffer with its book: how many entries each chunk had that was live when the book began, by
-- serial; each append since, in order; the lines, one for each receipt, in order; which lines are
-- open; the appends that wait for a receipt, by their places; how many of the appends are known to
-- be synced; and the serial of each chunk that was purged or dropped.
pub record Book (D : Type 0) : Type 0 where
  pub buffer : Held D
  pub first : List (ℕ × ℕ)
  pub appends : List Line
  pub lines : List Written
  pub pages : Pages
  pub waiting : List (ℕ × Line)
  pub synced : ℕ
  pub removed : List ℕ

-- how many entries the chunk of this serial had when the book began; 0 where there was none
abbrev pub counted_first : List (ℕ × ℕ) → ℕ → ℕ
counted_first first serial = option_map_or (λ count. count)
    (lookup (is_at (nat_cmp serial)) first) 0

-- whether the append is to the chunk of this serial
abbrev pub is_to : ℕ → Line → Bool
is_to serial append = is_at (nat_cmp serial) append.serial

-- the counts of the appends to the chunk of this serial, together
abbrev pub counted_appends : List Line → ℕ → ℕ
counted_appends appends serial = sum_by (λ append. append.count) (filter (is_to serial) appends)

-- the book knows the chunk of this serial: it was live when the book began, or something was
-- appended to it
abbrev pub IsKnown : List (ℕ × ℕ) → List Line → ℕ → Type 0
IsKnown first appends serial = IsSome (lookup (is_at (nat_cmp serial)) first)
    ⊎ Contains (map (λ append. append.serial) appends) serial

-- The book tells what became of each append: each chunk that it knows is live or has a note that it
-- was removed; a live one has as many entries as it had when the book began and the appends to it
-- count together; and each serial that it knows was given.
pub record IsAccounted (state : State) (first : List (ℕ × ℕ)) (appends : List Line)
    (removed : List ℕ) : Type 0 where
  pub there : (serial : ℕ) → IsKnown first appends serial → IsSome (chunk_at state serial)
      ⊎ Contains removed serial
  pub counted : (serial : ℕ)
      → IfSome (chunk_at state serial)
      (λ chunk. length chunk.entries ≡ counted_first first serial + counted_appends appends serial)
  pub given : (serial : ℕ) → IsKnown first appends serial → serial < state.next

-- the append of this place that waits for a receipt
abbrev pub waiting_at : List (ℕ × Line) → ℕ → Option Line
waiting_at waiting place = lookup (is_at (nat_cmp place)) waiting

-- the append of this place waits for a receipt, and is this one
abbrev pub IsWaiting : List (ℕ × Line) → ℕ → Line → Type 0
IsWaiting waiting place append = waiting_at waiting place ≡ Some append

-- Each line is of an append that is synced, no two lines of one append.
pub record AreReceipted (appends : List Line) (lines : List Written) (synced : ℕ) : Type 0 where
  pub each : All (λ written. slice_get appends written.place ≡ Some written.line) lines
  pub synced_each : All (λ written. written.place < synced) lines
  pub once : AllPairs (λ one other. one.place ≢ other.place) lines
  pub synced_all : synced ≤ length appends

-- the lines that are open are lines of the book, under their numbers
pub record AreOnPages (pages : Pages) (lines : List Written) : Type 0 where
  pub count : pages.count ≡ length lines
  pub each : (number : ℕ)
      → IfSome (open_at pages number)
      (λ line. IsSomeAnd (slice_get lines number) (λ written. written.line ≡ line))

-- what waits for a receipt are appends without one, and there is room for their lines
pub record AreWaiting (waiting : List (ℕ × Line)) (appends : List Line) (lines : List Written)
    (spare : ℕ) : Type 0 where
  pub each : (place : ℕ) → IfSome (waiting_at waiting place)
      (λ append. (slice_get appends place ≡ Some append)
      × All (λ written. written.place ≢ place) lines)
  pub room : length waiting ≤ spare
  pub few : length lines + length waiting ≤ length appends

-- What is kept behind the lock of a buffer and its book.
pub record IsSound {D : Type 0} (book : Book D) : Type 0 where
  pub accounted : IsAccounted book.buffer.chunks book.first book.appends book.removed
  pub receipted : AreReceipted book.appends book.lines book.synced
  pub on_pages : AreOnPages book.pages book.lines
  pub waits : AreWaiting book.waiting book.appends book.lines book.pages.room

-- the book stays as it is, but for its buffer and for how many appends are known to be synced
pub record SameBook {D : Type 0} (old new : Book D) : Type 0 where
  pub first : new.first ≡ old.first
  pub appends : new.appends ≡ old.appends
  pub lines : new.lines ≡ old.lines
  pub pages : SameLines old.pages new.pages
  pub waiting : (place : ℕ) → waiting_at new.waiting place ≡ waiting_at old.waiting place
  pub removed : new.removed ≡ old.removed

-- the book stays as it is, and so do the buffer's chunks and how many appends are known to be
-- synced
pub record Unchanged {D : Type 0} (old new : Book D) : Type 0 where
  pub book : SameBook old new
  pub chunks : new.buffer.chunks ≡ old.buffer.chunks
  pub synced : new.synced ≡ old.synced

-- entries are appended for a delivery, where it was planned, and noted
pub record Appends {D : Type 0} (delivery serial : ℕ) (tag : List ℕ) (entries : List (List ℕ))
    (old new : Book D) : Type 0 where
  pub place : planned old.buffer.limits old.buffer.chunks tag entries ≡ Ok serial
  pub chunks : new.buffer.chunks ≡ appended serial tag entries old.buffer.chunks
  pub appends : new.appends ≡ old.appends
      ++ record { delivery = delivery; serial = serial; count = length entries } ∷ []
  pub first : new.first ≡ old.first
  pub removed : new.removed ≡ old.removed

-- a line is written for the append of this place
pub record WritesLine {D : Type 0} (place : ℕ) (append : Line) (old new : Book D) : Type 0 where
  pub lines : new.lines ≡ old.lines ++ record { place = place; line = append } ∷ []
  pub pages : Writes append old.pages new.pages

-- the chunk of this serial is removed, and noted; the rest of the book stays
pub record Removes {D : Type 0} (serial : ℕ) (old new : Book D) : Type 0 where
  pub chunks : new.buffer.chunks ≡ removed serial old.buffer.chunks
  pub removed : new.removed ≡ old.removed ++ serial ∷ []
  pub first : new.first ≡ old.first
  pub appends : new.appends ≡ old.appends
  pub lines : new.lines ≡ old.lines
  pub pages : new.pages ≡ old.pages
  pub waiting : new.waiting ≡ old.waiting
  pub synced : new.synced ≡ old.synced

-- what a call on a buffer leaves alone: its limits; and how it leaves the failed flag
pub record Steady {D T : Type 0} (old new : Held D) (result : Result T BufferFault) : Type 0 where
  pub failed : (result ≡ Err BufferFault.Failed) ↔ (old.failed ≡ true)
  pub flags : Flags old.failed new.failed result
  pub limits : new.limits ≡ old.limits

-- Why an append is refused: the first of a failed buffer, a tag that is too long, what the plan of
-- the append says, and the last number.
pub record RefusesAppend {D T : Type 0} (tag : List ℕ) (entries : List (List ℕ)) (old : Book D)
    (result : Result T BufferFault) : Type 0 where
  pub long : old.buffer.failed ≡ false → longest_tag < length tag
      → result ≡ Err BufferFault.TooLarge
  pub refused : old.buffer.failed ≡ false → length tag ≤ longest_tag → (fault : AppendFault)
      → planned old.buffer.limits old.buffer.chunks tag entries ≡ Err fault
      → result ≡ Err (of_plan fault)
  pub accepted : old.buffer.failed ≡ false → length tag ≤ longest_tag → (serial : ℕ)
      → planned old.buffer.limits old.buffer.chunks tag entries ≡ Ok serial
      → OnErr result ((result ≡ Err BufferFault.Memory)
      ⊎ ((result ≡ Err BufferFault.Fault)
      ⊎ ((result ≡ Err BufferFault.LastSerial) × (2 ^ 64 - 1 ≤ length old.appends))))

-- more appends are known to be synced only where none is left that isn't
abbrev pub Syncs : {D : Type 0} → Book D → Book D → Type 0
Syncs old new = (new.synced ≡ old.synced)
    ⊎ ((new.synced ≡ length new.appends) × (new.buffer.staged ≡ false))

-- the book of these parts
abbrev pub book_of : {D : Type 0} → Held D → List (ℕ × ℕ) → List Line → List Written → Pages
    → List (ℕ × Line) → ℕ → List ℕ → Book D
book_of buffer first appends lines pages waiting synced removed =
    record {
      buffer = buffer;
      first = first;
      appends = appends;
      lines = lines;
      pages = pages;
      waiting = waiting;
      synced = synced;
      removed = removed;
    }

-- a buffer of this name that takes no steps any more, with its book
pub record Ended (D : Type 0) : Type 0 where
  pub leaf : Leaf
  pub book : Book D

-- the journal has more bytes than the buffer's setting says, and more than twice as many as the
-- entries of all live chunks have
abbrev pub WantsRenewal : {D : Type 0} → Held D → Type 0
WantsRenewal buffer = (buffer.renewed_past < buffer.journal.len)
    × (2 * total_size buffer.chunks < buffer.journal.len)
