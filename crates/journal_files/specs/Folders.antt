-- What opening a folder gives: the meaning of the greatest generation of a journal that isn't to be
-- passed over.
use Rattle.std.specs.Prelude.{ℕ, ◌≡◌, ◌⊎◌, ◌-◌, ◌<◌, ◌≤◌, ◌^◌, IsSome, IfSome, List, length, ◌++◌, codes, Option, None, Some}
use Rattle.disk_files.specs.Disk.{Disk, Folder, reads}
use Rattle.numbered_files.specs.Names.{ten_digits}
use Rattle.buffer_state.specs.State.{State, empty}
use Rattle.buffer_state.specs.Steps.{settled}
use Rattle.chunk_journal.specs.Journal.{IsJournal}
use Rattle.chunk_journal.specs.Meaning.{EndsUnsealed, IsDamaged}
use Rattle.journal_files.specs.JournalLogs.{JournalLog, records_of, state_of, reopened_at, IsJournalLog}

-- the name of a generation: the path, a dot, the number in ten digits, a dot, and `journal`
abbrev pub journal_name : List ℕ → ℕ → List ℕ
journal_name path number = path ++ (codes "." ++ ten_digits number ++ codes ".journal")

-- opening passes over each generation above this one: no file is there, or its whole records end
-- before a Seal
abbrev pub PassesAbove : List ℕ → Folder → ℕ → Type 0
PassesAbove path folder number = (n : ℕ) → number < n → n < 2 ^ 32
    → IfSome (folder (journal_name path n)) EndsUnsealed

-- so it passes over this file
abbrev pub IsPassedOver : Option (List ℕ) → Type 0
IsPassedOver file = IfSome file EndsUnsealed

-- The bytes are a generation that can be told so, up to the first place where no whole record
-- stands, and mean this. The queue goes by rising serial.
pub record IsSealed (bytes : List ℕ) (state : State) : Type 0 where
  pub logged : JournalLog
  pub told : IsJournalLog logged
  pub rest : List ℕ
  pub journal : IsJournal bytes (records_of logged) rest
  pub means : state ≡ settled (state_of logged)

-- the greatest generation that isn't passed over is sealed, and means this
pub record OpensBy (path : List ℕ) (folder : Folder) (state : State) : Type 0 where
  pub number : ℕ
  pub first : 1 ≤ number
  pub last : number < 2 ^ 32
  pub bytes : List ℕ
  pub there : folder (journal_name path number) ≡ Some bytes
  pub above : PassesAbove path folder number
  pub means : IsSealed bytes state

-- Opening this folder gives this state: what the greatest generation means that isn't passed over,
-- and nothing where there is none.
abbrev pub Opens : List ℕ → Folder → State → Type 0
Opens path folder state = OpensBy path folder state ⊎ ((state ≡ empty) × PassesAbove path folder 0)

-- The folder opens to the state after some of the steps, and those that each stop leaves are among
-- them.
pub record OpensWithin (path : List ℕ) (t : JournalLog) (folder : Folder) : Type 0 where
  pub steps : ℕ
  pub enough : t.durable ≤ steps
  pub begun : steps ≤ length t.steps
  pub opens : Opens path folder (reopened_at t steps)

-- the file of a generation, above which all are passed over
pub record IsHighest (path : List ℕ) (folder : Folder) (number : ℕ) (bytes : List ℕ) : Type 0 where
  pub first : 1 ≤ number
  pub last : number < 2 ^ 32
  pub there : folder (journal_name path number) ≡ Some bytes
  pub above : PassesAbove path folder number

-- the greatest generation that isn't passed over is damaged
pub record IsDamagedFolder (path : List ℕ) (folder : Folder) : Type 0 where
  pub number : ℕ
  pub bytes : List ℕ
  pub highest : IsHighest path folder number bytes
  pub damaged : IsDamaged bytes

-- the number of the next generation: one above the greatest that was ever begun, and 1 where there
-- is none
pub record IsNext (path : List ℕ) (disk : Disk) (number : ℕ) : Type 0 where
  pub some : 0 < number
  pub before : (number ≡ 1) ⊎ IsSome (disk (journal_name path (number - 1)))
  pub above : (n : ℕ) → number ≤ n → n < 2 ^ 32 → reads disk (journal_name path n) ≡ None
