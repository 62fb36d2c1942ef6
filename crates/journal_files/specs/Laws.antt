-- What holds of journals on a disk, apart from any call.
use Rattle.std.specs.Prelude.{ℕ, ◌≡◌, ◌↔◌, List}
use Rattle.disk_files.specs.Disk.{Disk, Folder, after_stop}
use Rattle.buffer_state.specs.State.{State}
use Rattle.chunk_journal.specs.Meaning.{IsReplayed}
use Rattle.journal_files.specs.Folders.{Opens, IsDamagedFolder, IsSealed}
use Rattle.journal_files.specs.JournalLogs.{JournalLog}
use Rattle.journal_files.specs.Views.{OpenJournal}
use Rattle.journal_files.specs.Disks.{Keeps, Recovers, HasNoStray, HasNoGap}

-- Recovery: whatever a stop leaves of a journal opens to the state after some of its steps, all
-- durable ones among them.
abbrev pub RecoversAll : Type 0
RecoversAll = (journal : OpenJournal) (disk : Disk) (t : JournalLog) → Keeps journal disk t
    → Recovers journal.path disk t

-- where the disk has a journal whole, no generation that was ever begun is above all that read
abbrev pub KeepsNoStray : Type 0
KeepsNoStray = (journal : OpenJournal) (disk : Disk) (t : JournalLog) → Keeps journal disk t
    → HasNoStray journal.path disk

-- nor is one after a stop
abbrev pub LeavesNoStray : Type 0
LeavesNoStray = (path : List ℕ) (folder : Folder) → HasNoStray path (after_stop folder)

-- where none is above all that read, the removed ones leave no gap
abbrev pub StrayIsGap : Type 0
StrayIsGap = (path : List ℕ) (disk : Disk) → HasNoStray path disk → HasNoGap path disk

-- a folder opens one way
abbrev pub OpensOneWay : Type 0
OpensOneWay = (path : List ℕ) (folder : Folder) (one other : State) → Opens path folder one
    → Opens path folder other → one ≡ other

-- a folder that opens isn't damaged
abbrev pub OpensUndamaged : Type 0
OpensUndamaged = (path : List ℕ) (folder : Folder) (state : State) → Opens path folder state
    → IsDamagedFolder path folder → ⊥

-- what a generation means that an opening reads is what its records tell one after another
abbrev pub SealedIsReplayed : Type 0
SealedIsReplayed = (bytes : List ℕ) (state : State)
    → IsSealed bytes state ↔ ((used : ℕ) × IsReplayed bytes state used)
