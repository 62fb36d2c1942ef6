-- What opening finds in a folder. (Words of private functions.)
use Rattle.std.specs.Prelude.{ℕ, ◌≡◌, ◌⊎◌, ◌+◌, ◌<◌, ◌≤◌, ◌^◌, List, [], length, Option, None, Some, IsSome}
use Rattle.disk_files.specs.Disk.{Disk, Folder, WasRemoved, reads}
use Rattle.disk_files.specs.declared.dir.FileNo.{FileNo}
use Rattle.buffer_state.specs.State.{State}
use Rattle.chunk_journal.specs.Feeding.{Heard, IsAfter}
use Rattle.chunk_journal.specs.Outlines.{IsOutlined}
use Rattle.chunk_journal.specs.Places.{Spots, ArePlaced}
use Rattle.journal_files.specs.Folders.{journal_name}

-- the greatest number of a generation that is there, or 0 where there is none
pub record IsFound (path : List ℕ) (folder : Folder) (number : ℕ) : Type 0 where
  pub there : (number ≡ 0) ⊎ IsSome (folder (journal_name path number))
  pub above : (n : ℕ) → number < n → n < 2 ^ 32 → folder (journal_name path n) ≡ None

-- the last number that is taken: that of a generation that is there or was removed, or 0, with none
-- there above it, and the next one free
pub record IsLastTaken (path : List ℕ) (disk : Disk) (number : ℕ) : Type 0 where
  pub begun : (number ≡ 0)
      ⊎ (IsSome (reads disk (journal_name path number))
      ⊎ WasRemoved disk (journal_name path number))
  pub above : (n : ℕ) → number < n → n < 2 ^ 32 → reads disk (journal_name path n) ≡ None
  pub free : WasRemoved disk (journal_name path (number + 1)) → ⊥

-- the file is there, and means this, and the entries lie at these places of it
pub record IsMeant (file : Option (List ℕ)) (state : State) (spots : Spots) : Type 0 where
  pub bytes : List ℕ
  pub used : ℕ
  pub there : file ≡ Some bytes
  pub small : length bytes < 2 ^ 64
  pub means : IsOutlined bytes state spots used

-- the file is there, and is so
pub record IsSo (file : Option (List ℕ)) (So : List ℕ → Type 0) : Type 0 where
  pub bytes : List ℕ
  pub there : file ≡ Some bytes
  pub so : So bytes

-- some bytes were fed to an outline
pub record HasHeard (heard : Heard) : Type 0 where
  pub seen : List ℕ
  pub after : IsAfter heard seen

-- the open file is that of a generation, at most this one, and the entries lie at these places of
-- it
pub record IsGeneration (opened : FileNo → Option (List ℕ)) (disk : Disk) (path : List ℕ)
    (greatest : ℕ) (file : FileNo) (spots : Spots) (state : State) : Type 0 where
  pub number : ℕ
  pub within : number ≤ greatest
  pub named : opened file ≡ Some (journal_name path number)
  pub bytes : List ℕ
  pub there : reads disk (journal_name path number) ≡ Some bytes
  pub small : length bytes < 2 ^ 64
  pub placed : ArePlaced bytes spots state

-- so it is with the file that was found; and where none was, there are no chunks
abbrev pub FindsSource : (FileNo → Option (List ℕ)) → Disk → List ℕ → ℕ → Option FileNo → Spots
    → State → Type 0
FindsSource opened disk path greatest None spots state = state.chunks ≡ []
FindsSource opened disk path greatest (Some file) spots state =
    IsGeneration opened disk path greatest file spots state
