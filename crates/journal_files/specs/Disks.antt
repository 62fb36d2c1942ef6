-- A journal on a disk.
use Rattle.std.specs.Prelude.{ℕ, ◌≡◌, ◌<◌, ◌≤◌, ◌^◌, true, false, List, length, take, None, Some, IsSome}
use Rattle.disk_files.specs.Disk.{Disk, Folder, StopLeaves, reads}
use Rattle.chunk_journal.specs.Journal.{journal_bytes}
use Rattle.chunk_journal.specs.Places.{ArePlaced}
use Rattle.journal_files.specs.Folders.{journal_name, OpensWithin}
use Rattle.journal_files.specs.JournalLogs.{JournalLog, records_of, state_of, IsJournalLog}
use Rattle.journal_files.specs.Views.{OpenJournal}

-- The disk has the journal, whole: the file of its generation has the records that it told and
-- nothing else, a stop leaves this file with the chunks, the Seal and the durable steps at least,
-- and no greater generation was ever begun.
-- The journal knows how many bytes these are, and where among them the entries of each live chunk
-- lie.
pub record Keeps (journal : OpenJournal) (disk : Disk) (t : JournalLog) : Type 0 where
  pub logged : IsJournalLog t
  pub first : 1 ≤ journal.number
  pub last : journal.number < 2 ^ 32
  pub synced : ℕ
  pub there : disk (journal_name journal.path journal.number)
      ≡ Some (record {
        written = journal_bytes (records_of t);
        synced = synced;
        is_durable = true;
        is_removed = false;
      })
  pub holds : length (journal_bytes (records_of (record t { steps = take t.durable t.steps })))
      ≤ synced
  pub fits : synced ≤ length (journal_bytes (records_of t))
  pub counted : journal.len ≡ length (journal_bytes (records_of t))
  pub newest : (n : ℕ) → journal.number < n → n < 2 ^ 32 → disk (journal_name journal.path n) ≡ None
  pub placed : ArePlaced (journal_bytes (records_of t)) journal.places (state_of t)

-- Each folder that a stop may leave now opens to the state after some of the steps, all durable
-- ones among them.
abbrev pub Recovers : List ℕ → Disk → JournalLog → Type 0
Recovers path disk t = (folder : Folder) → StopLeaves disk folder → OpensWithin path t folder

-- no generation from this one on was ever begun
abbrev pub HasNoneFrom : List ℕ → Disk → ℕ → Type 0
HasNoneFrom path disk number = (n : ℕ) → number ≤ n → n < 2 ^ 32 → disk (journal_name path n) ≡ None

-- Each generation that was ever begun is at or below one that reads. (So no removed one comes back
-- above all that are there.)
pub record IsBelowSome (path : List ℕ) (disk : Disk) (n : ℕ) : Type 0 where
  pub number : ℕ
  pub above : n ≤ number
  pub last : number < 2 ^ 32
  pub there : IsSome (reads disk (journal_name path number))

-- no generation that was ever begun is above all that read
abbrev pub HasNoStray : List ℕ → Disk → Type 0
HasNoStray path disk = (n : ℕ) → 1 ≤ n → n < 2 ^ 32 → IsSome (disk (journal_name path n))
    → IsBelowSome path disk n

-- of each generation below this one that was never begun, one at or above it reads. (A word of
-- private functions.)
abbrev pub HasAllBelow : List ℕ → Disk → ℕ → Type 0
HasAllBelow path disk number = (k : ℕ) → 1 ≤ k → k < number → disk (journal_name path k) ≡ None
    → ((n : ℕ) → k ≤ n → n < 2 ^ 32 → reads disk (journal_name path n) ≡ None) → ⊥

-- Above a number that was never begun, and from which on nothing reads, none was ever begun. (So
-- the generations that were begun and removed above all that read leave no gap, and the first
-- number that is free is above all that were ever begun.)
abbrev pub HasNoGap : List ℕ → Disk → Type 0
HasNoGap path disk = (number : ℕ) → 1 ≤ number → disk (journal_name path number) ≡ None
    → ((n : ℕ) → number ≤ n → n < 2 ^ 32 → reads disk (journal_name path n) ≡ None)
    → (n : ℕ) → number ≤ n → n < 2 ^ 32 → disk (journal_name path n) ≡ None
