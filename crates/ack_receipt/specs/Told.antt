-- What contracts are told of a book's past. It has no bytes.
use Rattle.std.specs.Prelude.{ℕ, Bool, cond, List, length, map}
use Rattle.book_audit.specs.declared.line.Line.{Line}
use Rattle.buffer_state.specs.State.{State}
use Rattle.ack_receipt.specs.declared.past.Written.{Written}

-- What was told so far: how many entries each chunk had that was live when the book began, by
-- serial; each append since, in order; each append that got a receipt, in the order of the
-- receipts; the serial of each chunk that was purged or dropped; and how many of the appends are
-- known to be synced. How many times something was told only says that the past is finite.
pub record ToldPast : Type 0 where
  pub times : ℕ
  pub first : List (ℕ × ℕ)
  pub appends : List Line
  pub lines : List Written
  pub removed : List ℕ
  pub synced : ℕ

-- An append counts as synced if at some moment after it the buffer had no append that wasn't. So of
-- the appends that were told before a moment all do if the buffer has none then that isn't synced;
-- and if it has one, as many do as did before.
abbrev pub synced_at : (staged : Bool) → (appends before : ℕ) → ℕ
synced_at staged appends before = cond staged before appends

-- how many entries each live chunk has, by serial
abbrev pub counts_of : State → List (ℕ × ℕ)
counts_of state = map (λ numbered. (numbered.0, length numbered.1.entries)) state.chunks
