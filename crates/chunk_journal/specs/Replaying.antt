-- How far a replay has come, for the proofs of this crate.
use Rattle.std.specs.Prelude.{ℕ, ◌≡◌, ◌≤◌, ◌⊎◌, Bool, true, false, List, Option, None, Some, Result, Ok, Err}
use Rattle.std.specs.Borrow.{Bor}
use Rattle.buffer_state.specs.State.{State, empty}
use Rattle.chunk_journal.specs.declared.fault.ReplayError.{ReplayError}
use Rattle.chunk_journal.specs.declared.fault.ReplayError.TheVariants as errors
use Rattle.chunk_journal.specs.Records.{Record, Seal, Append, Queue, Purge}
use Rattle.chunk_journal.specs.Journal.{IsTorn, IsBad, BeginsWith}
use Rattle.chunk_journal.specs.Reading.{Begins}
use Rattle.chunk_journal.specs.Meaning.{Tells, Allows, after, after_all, IsUnsealed, Leads}

-- where a replay stands: whether the Seal was read, and the state so far
pub record Place : Type 0 where
  pub is_sealed : Bool
  pub state : State

-- the record may stand here: before the Seal one that tells, or the Seal itself, and after it a
-- step
abbrev pub CanFollow : Bool → State → Record → Type 0
CanFollow false state (Seal next) = state.next ≤ next
CanFollow false state (Append serial tag entries) = Tells state (Append serial tag entries)
CanFollow false state (Queue serial) = Tells state (Queue serial)
CanFollow false state (Purge serial) = ⊥
CanFollow true state item = Allows state item

-- whether the Seal was read, after a record
abbrev pub sealed_after : Bool → Record → Bool
sealed_after is_sealed (Seal next) = true
sealed_after is_sealed (Append serial tag entries) = is_sealed
sealed_after is_sealed (Queue serial) = is_sealed
sealed_after is_sealed (Purge serial) = is_sealed

-- one record further
pub record Goes (old : Place) (item : Record) (new : Place) : Type 0 where
  pub follows : CanFollow old.is_sealed old.state item
  pub sealed : new.is_sealed ≡ sealed_after old.is_sealed item
  pub state : new.state ≡ after old.state item

-- the record was taken, or it can't stand here
abbrev pub Takes : Place → Record → Place → Bool → Type 0
Takes old item new true = Goes old item new
Takes old item new false = CanFollow old.is_sealed old.state item → ⊥

-- what these records lead to
abbrev pub Stands : Bool → List Record → State → Type 0
Stands false records state = IsUnsealed records × (state ≡ after_all empty records)
Stands true records state = Leads records state

-- the records up to the rest lead here
pub record SoFar (bytes : List ℕ) (place : Place) (rest : List ℕ) : Type 0 where
  pub records : List Record
  pub begins : BeginsWith records rest bytes
  pub stands : Stands place.is_sealed records place.state

-- a record stands here, and goes on to there
pub record Advances (rest : List ℕ) (old new : Place) (behind : List ℕ) : Type 0 where
  pub item : Record
  pub begins : Begins rest item behind
  pub goes : Goes old item new

-- a record stands here that can't
pub record Refuses (rest : List ℕ) (old : Place) : Type 0 where
  pub item : Record
  pub behind : List ℕ
  pub begins : Begins rest item behind
  pub refused : CanFollow old.is_sealed old.state item → ⊥

-- what one more record is answered by
abbrev pub Advanced : List ℕ → Place → Place → Result (Option (Bor (List ℕ))) ReplayError → Type 0
Advanced rest old new (Ok (Some behind)) = Advances rest old new behind.now
Advanced rest old new (Ok None) = IsTorn rest × (new ≡ old)
Advanced rest old new (Err errors.Memory) = Unit {0}
Advanced rest old new (Err errors.NotSealed) = ⊥
Advanced rest old new (Err errors.BadRecord) = IsBad rest ⊎ Refuses rest old
