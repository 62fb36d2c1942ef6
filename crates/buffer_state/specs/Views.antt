-- What a buffer's chunks in memory stand for, and what holds of them.
use Rattle.std.specs.Prelude.{ℕ, ◌≡◌, ◌+◌, ◌<◌, ◌≤◌, Bool, true, false, not, cond, nat_le, List, ◌++◌, filter, sum_by, IfSome, IsSomeAnd, nat_eq}
use Rattle.std.specs.Option.{option_map_or}
use Rattle.std.specs.List.{AllByRecursion, IsDistinct}
use Rattle.std.specs.Map.{keys_of, values_of}
use Rattle.std.specs.Ordering.{nat_cmp}
use Rattle.std.specs.List.Sorted.{IsStrictlySortedBy}
use Rattle.std.specs.BTreeMap.{is_at}
use Rattle.std.specs.BTreeSet.{BTreeSet, contains}
use Rattle.std.specs.declared.collections.VecDeque.{VecDeque}
use Rattle.std.specs.VecDeque.{deque_len, deque_capacity}
use Rattle.buffer_state.specs.declared.chunk.Stage.{Stage}
use Rattle.buffer_state.specs.declared.chunk.Stage.TheVariants.{Staged, Queued, Claimed}
use Rattle.buffer_state.specs.State.{State, is_staged, is_queued, size_at, newest_staged}
use Rattle.buffer_state.specs.Slots.{Slots, slot_at, chunks_in, AreBelow}

-- whether the chunk is being delivered
abbrev pub is_claimed : Stage → Bool
is_claimed Staged = false
is_claimed Queued = false
is_claimed Claimed = true

-- queued or claimed
abbrev pub is_waiting : Stage → Bool
is_waiting stage = not (is_staged stage)

-- whether the chunk of this serial passes, where there is one
abbrev pub passes_at : (Stage → Bool) → Slots → ℕ → Bool
passes_at test slots serial = option_map_or (λ slot. test slot.chunk.stage)
    (slot_at slots serial) false

-- how many chunks are claimed
abbrev pub claims : Slots → ℕ
claims slots = sum_by (λ slot. cond (is_claimed slot.chunk.stage) 1 0) (values_of slots)

-- The place of an append of so many bytes: the newest staged chunk of the tag where they fit into
-- it within this limit, else a new one.
abbrev pub place_within : ℕ → State → List ℕ → ℕ → ℕ
place_within limit state tag bytes =
    option_map_or (λ serial. cond (nat_le (size_at state serial + bytes) limit) serial state.next)
    (newest_staged state tag) state.next

-- what these fields stand for
abbrev pub state_of : Slots → List ℕ → ℕ → State
state_of slots order next =
    record {
      chunks = chunks_in slots;
      next = next;
      queue = filter (passes_at is_queued slots) order;
    }

-- A serial in the queue is that of a queued chunk, or of one that is gone.
abbrev pub IsFree : Slots → ℕ → ℕ → Type 0
IsFree slots next serial = (serial < next) × IfSome (slot_at slots serial)
    (λ slot. slot.chunk.stage ≡ Queued)

-- what holds of these fields
pub record IsSound {A : Type 0} (slots : Slots) (waiting : BTreeSet ℕ) (order : VecDeque ℕ A)
    (next : ℕ) : Type 0 where
  pub rising : IsStrictlySortedBy nat_cmp (keys_of slots)
  pub below : AreBelow next (keys_of slots)
  pub distinct : IsDistinct nat_eq order.items
  pub free : AllByRecursion (IsFree slots next) order.items
  pub room : deque_len order + claims slots ≤ deque_capacity order
  pub waits : (serial : ℕ) → contains nat_cmp waiting serial ≡ passes_at is_waiting slots serial
  pub listed : IsStrictlySortedBy nat_cmp waiting.keys

-- the first list is the end of the second
abbrev pub IsEndOf : List ℕ → List ℕ → Type 0
IsEndOf end all = (before : List ℕ) × (all ≡ before ++ end)

-- what holds of these fields where there is room for a step on the chunk of this serial, which is
-- staged; it is among the waiting ones already
pub record IsReady {A : Type 0} (slots : Slots) (waiting : BTreeSet ℕ) (order : VecDeque ℕ A)
    (next serial : ℕ) : Type 0 where
  pub rising : IsStrictlySortedBy nat_cmp (keys_of slots)
  pub below : AreBelow next (keys_of slots)
  pub distinct : IsDistinct nat_eq order.items
  pub free : AllByRecursion (IsFree slots next) order.items
  pub room : deque_len order + claims slots + 1 ≤ deque_capacity order
  pub waits : (other : ℕ) → contains nat_cmp waiting other
      ≡ cond (is_at (nat_cmp serial) other) true (passes_at is_waiting slots other)
  pub listed : IsStrictlySortedBy nat_cmp waiting.keys
  pub ready : IsSomeAnd (slot_at slots serial) (λ slot. slot.chunk.stage ≡ Staged)
