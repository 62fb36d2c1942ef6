-- What a journal means: the chunks that a generation begins with, the Seal behind them, and then
-- the steps.
use Rattle.std.specs.Prelude.{ℕ, ◌≡◌, ◌+◌, ◌≤◌, ◌⊎◌, List, [], ◌∷◌, ◌++◌, length, cond}
use Rattle.std.specs.List.{flat_map}
use Rattle.buffer_state.specs.declared.chunk.Stage.TheVariants.{Staged, Queued}
use Rattle.buffer_state.specs.State.{Numbered, State, size, empty, is_staged, IsAt}
use Rattle.buffer_state.specs.Steps.{CanAppend, appended, queued_last, removed, greatest_size, settled}
use Rattle.chunk_journal.specs.Records.{Record, Seal, Append, Queue, Purge}
use Rattle.chunk_journal.specs.Journal.{IsBad, IsJournal, BeginsWith, journal_bytes}

-- The record tells a live chunk, behind those that were told: an Append of a serial that isn't
-- below the next, or a Queue of the chunk told last.
abbrev pub Tells : State → Record → Type 0
Tells state (Append serial tag entries) = CanAppend state serial tag entries × (state.next ≤ serial)
Tells state (Queue serial) = IsAt Staged state serial × (serial + 1 ≡ state.next)
Tells state _ = ⊥

-- The record is a step that this state allows: an Append to a staged chunk of its tag or of the
-- next serial, a Queue of a staged chunk, a Purge of a queued one.
abbrev pub Allows : State → Record → Type 0
Allows state (Seal next) = ⊥
Allows state (Append serial tag entries) = CanAppend state serial tag entries
    × (serial ≤ state.next)
Allows state (Queue serial) = IsAt Staged state serial
Allows state (Purge serial) = IsAt Queued state serial

-- the state after a record
abbrev pub after : State → Record → State
after state (Seal next) = record state { next = next }
after state (Append serial tag entries) = appended serial tag entries state
after state (Queue serial) = queued_last serial state
after state (Purge serial) = removed serial state

-- the state after all of them
abbrev pub after_all : State → List Record → State
after_all state [] = state
after_all state (item ∷ items) = after_all (after state item) items

-- each record is such, in the state to which those before it lead
abbrev pub Each : (State → Record → Type 0) → State → List Record → Type 0
Each Fits state [] = Unit {0}
Each Fits state (item ∷ items) = Fits state item × Each Fits (after state item) items

-- The records are those before the Seal of some generation: they tell live chunks by rising serial.
abbrev pub IsUnsealed : List Record → Type 0
IsUnsealed records = Each Tells empty records

-- The records are a generation that leads here: live chunks by rising serial, a Seal whose serial
-- is greater than all of theirs, and steps from there.
pub record Leads (records : List Record) (state : State) : Type 0 where
  pub told : List Record
  pub next : ℕ
  pub steps : List Record
  pub tells : Each Tells empty told
  pub greater : (after_all empty told).next ≤ next
  pub allowed : Each Allows (after (after_all empty told) (Seal next)) steps
  pub whole : records ≡ told ++ Seal next ∷ steps
  pub here : state ≡ after_all (after (after_all empty told) (Seal next)) steps

-- What the records of a generation mean. The queue goes by rising serial.
pub record IsGeneration (records : List Record) (state : State) : Type 0 where
  pub last : State
  pub leads : Leads records last
  pub means : state ≡ settled last

-- neither: some record of them stands where it can't
pub record IsMisplaced (records : List Record) : Type 0 where
  pub not_unsealed : IsUnsealed records → ⊥
  pub not_sealed : (state : State) → Leads records state → ⊥

-- what replaying a journal answers, without where it lies in memory
pub data Answer : Type 0 where
  Means : (state : State) (used : ℕ) → Answer
  NotSealed : Answer
  BadRecord : Answer

-- the whole records are a generation that means this, and end after so many bytes
pub record IsReplayed (bytes : List ℕ) (state : State) (used : ℕ) : Type 0 where
  pub records : List Record
  pub rest : List ℕ
  pub journal : IsJournal bytes records rest
  pub generation : IsGeneration records state
  pub ends : used ≡ length (journal_bytes records)

-- the whole records end before a Seal
pub record EndsUnsealed (bytes : List ℕ) : Type 0 where
  pub records : List Record
  pub rest : List ℕ
  pub journal : IsJournal bytes records rest
  pub unsealed : Each Tells empty records

-- somewhere stands a whole record that can't stand there, or something whole that is no record
pub record IsDamaged (bytes : List ℕ) : Type 0 where
  pub records : List Record
  pub rest : List ℕ
  pub begins : BeginsWith records rest bytes
  pub wrong : IsMisplaced records ⊎ IsBad rest

-- what a journal of these bytes is answered by
abbrev pub IsAnswer : List ℕ → Answer → Type 0
IsAnswer bytes (Means state used) = IsReplayed bytes state used
IsAnswer bytes NotSealed = EndsUnsealed bytes
IsAnswer bytes BadRecord = IsDamaged bytes

-- The records that tell a live chunk: an Append, and a Queue where it is to be claimed. One that was
-- claimed is told as queued.
abbrev pub chunk_records : Numbered → List Record
chunk_records numbered = Append numbered.0 numbered.1.tag numbered.1.entries
    ∷ cond (is_staged numbered.1.stage) [] (Queue numbered.0 ∷ [])

-- what a generation of these chunks begins with: the chunks by rising serial, and then one Seal
abbrev pub beginning : List Numbered → ℕ → List Record
beginning chunks next = flat_map chunk_records chunks ++ Seal next ∷ []

-- chunks that a generation can begin with: their serials rise from the least on and are all below
-- the next, and none has too many bytes
abbrev pub AreTold : ℕ → List Numbered → ℕ → Type 0
AreTold least [] next = least ≤ next
AreTold least (numbered ∷ chunks) next = (least ≤ numbered.0)
    × (size numbered.1.entries ≤ greatest_size) × AreTold (numbered.0 + 1) chunks next
