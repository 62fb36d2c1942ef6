-- What a journal has told, and what a stop may make of it.
use Rattle.std.specs.Prelude.{ℕ, ◌≡◌, ◌≤◌, List, [], ◌∷◌, ◌++◌, length, take}
use Rattle.std.specs.List.{AllByRecursion, flat_map}
use Rattle.buffer_state.specs.State.{State, empty}
use Rattle.buffer_state.specs.Steps.{settled}
use Rattle.chunk_journal.specs.Records.{Record, Seal, IsRecord}
use Rattle.chunk_journal.specs.Meaning.{Tells, Allows, Each, after, after_all, chunk_records}

-- What a generation has told so far.
pub record JournalLog : Type 0 where
  pub told : List Record  -- the chunks that it begins with
  pub next : ℕ  -- the serial of its Seal
  pub steps : List Record  -- the steps begun behind the Seal, in order
  pub durable : ℕ  -- how many of these steps each stop leaves

-- its records: the chunks, the Seal and the steps
abbrev pub records_of : JournalLog → List Record
records_of t = t.told ++ Seal t.next ∷ t.steps

-- the state after all of its steps
abbrev pub state_of : JournalLog → State
state_of t = after_all (after (after_all empty t.told) (Seal t.next)) t.steps

-- the state that opening gives where so many of its steps were left: the queue goes by rising
-- serial
abbrev pub reopened_at : JournalLog → ℕ → State
reopened_at t k = settled (state_of (record t { steps = take k t.steps }))

-- the state is the one after some of the steps, all durable ones among them, as opening gives it
pub record IsOfSome (t : JournalLog) (state : State) : Type 0 where
  pub steps : ℕ
  pub enough : t.durable ≤ steps
  pub begun : steps ≤ length t.steps
  pub state_is : state ≡ reopened_at t steps

-- its records can be told so
pub record IsJournalLog (t : JournalLog) : Type 0 where
  pub tells : Each Tells empty t.told
  pub greater : (after_all empty t.told).next ≤ t.next
  pub allowed : Each Allows (after (after_all empty t.told) (Seal t.next)) t.steps
  pub records : AllByRecursion IsRecord (records_of t)
  pub few : t.durable ≤ length t.steps

-- one more step is begun
abbrev pub begun : Record → JournalLog → JournalLog
begun item t = record t { steps = t.steps ++ item ∷ [] }

-- each stop leaves all steps
abbrev pub all_durable : JournalLog → JournalLog
all_durable t = record t { durable = length t.steps }

-- a generation that only begins: it tells these chunks, claimed ones as queued
abbrev pub new_generation : State → JournalLog
new_generation state = record {
  told = flat_map chunk_records state.chunks;
  next = state.next;
  steps = [];
  durable = 0;
}

-- the state at a log's Seal. (A word of proofs.)
abbrev pub state_at_seal : JournalLog → State
state_at_seal t = after (after_all empty t.told) (Seal t.next)
