-- How a worker ended, and how several did.
use Rattle.std.specs.Prelude.{ℕ, ◌≡◌, ◌+◌, true, None, Some, List, Result, Ok, Err}
use Rattle.buffer_store.specs.declared.fault.BufferFault.{BufferFault}
use Rattle.ack_receipt.specs.Claims.{Claimed}
use Rattle.ack_receipt.specs.Evidences.{Shows}
use Rattle.flush_pool.specs.declared.acts.Outcome.{Outcome}
use Rattle.flush_pool.specs.declared.worked.Worked.{Worked}
use Rattle.flush_pool.specs.Acts.{Act, Place, Post, Looked, last, held}
use Rattle.flush_pool.specs.Counts.{none, counted, counts, added}
use Rattle.flush_pool.specs.Laws.{AreLawful, ends_by}

-- the worker has this claimed chunk of its buffer in its hands
abbrev pub Holds : {A C G : Type 0} → Claimed → Place A C G → Type 0
Holds claim place =
    (claim.leaf ≡ place.post.terms.leaf) × (held place.acts ≡ Some claim.serial)

-- the worker has nothing in its hands, and may go on
abbrev pub IsFree : List Act → Type 0
IsFree acts = (held acts ≡ None) × (ends_by acts ≡ None)

-- The worker is done with a chunk, which is counted by what came of it; or it has nothing in its
-- hands and has to end by this fault.
abbrev pub IsSettled : List Act → List Act → Result Outcome BufferFault → Type 0
IsSettled old new (Ok outcome) = IsFree new × (counts new ≡ counted outcome (counts old))
IsSettled old new (Err fault) = (held new ≡ None) × (ends_by new ≡ Some fault)

-- A worker ended that did this: it was told to stop, and gives the counts; or it had to end, by
-- this fault, with nothing in its hands.
abbrev pub HasEnded : List Act → Result Worked BufferFault → Type 0
HasEnded acts (Ok worked) = (last acts ≡ Some (Looked true)) × (held acts ≡ None)
    × (worked ≡ counts acts)
HasEnded acts (Err fault) = (held acts ≡ None) × (ends_by acts ≡ Some fault)

-- a worker did what it did by the laws, whose gate lets these serials through and whose courier
-- gives these, and ended so
pub record IsWorked {A C G : Type 0} (lets : G → ℕ → Type 0)
    (gives : C → Claimed → Shows → Type 0) (end : Place A C G)
    (answer : Result Worked BufferFault) : Type 0 where
  pub lawful : AreLawful lets gives end.post end.acts
  pub ended : HasEnded end.acts answer

-- a worker at this post that had done nothing ended so
abbrev pub HasWorked : {A C G : Type 0} → (lets : G → ℕ → Type 0)
    → (gives : C → Claimed → Shows → Type 0) → Post A C G → Result Worked BufferFault → Type 0
HasWorked lets gives post answer =
    (acts : List Act) × IsWorked lets gives (record { post = post; acts = acts }) answer

-- how two ended: with both their counts, or with the fault of the first that has one
abbrev pub both : Result Worked BufferFault → Result Worked BufferFault → Result Worked BufferFault
both (Ok one) (Ok other) = Ok (added one other)
both (Ok one) (Err fault) = Err fault
both (Err fault) other = Err fault

-- so many workers at this post, each of which had done nothing, ended so
pub data HaveWorked {A C G : Type 0} (lets : G → ℕ → Type 0)
    (gives : C → Claimed → Shows → Type 0) (post : Post A C G)
    : ℕ → Result Worked BufferFault → Type 0 where
  Nobody : HaveWorked lets gives post 0 (Ok none)
  OneMore : (n : ℕ) (one others : Result Worked BufferFault) → HasWorked lets gives post one
      → HaveWorked lets gives post n others
      → HaveWorked lets gives post (n + 1) (both one others)
