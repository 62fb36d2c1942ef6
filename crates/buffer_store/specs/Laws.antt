-- What holds of buffers and stops, apart from any call.
use Rattle.std.specs.Prelude.{ℕ, ◌≡◌, ◌≤◌, List, Some}
use Rattle.disk_files.specs.Disk.{Disk, Folder, StopLeaves}
use Rattle.buffer_state.specs.State.{Chunk, State, chunk_at}
use Rattle.buffer_state.specs.declared.chunk.Stage.TheVariants.{Queued}
use Rattle.journal_files.specs.Folders.{Opens, OpensWithin, IsDamagedFolder}
use Rattle.journal_files.specs.JournalLogs.{JournalLog, IsJournalLog, IsOfSome}
use Rattle.journal_files.specs.Disks.{Recovers}
use Rattle.buffer_store.specs.Durability.{IsNamed, durably}

-- a folder that a stop leaves isn't damaged, and opens to the state after some of the steps told,
-- all durable ones among them, and to no other
abbrev pub RecoversWhatIsDurable : Type 0
RecoversWhatIsDurable = (path : List ℕ) (disk : Disk) (t : JournalLog) (folder : Folder)
    → Recovers path disk t → StopLeaves disk folder
    → OpensWithin path t folder × ((state : State) → Opens path folder state → IsOfSome t state)
    × (IsDamagedFolder path folder → ⊥)

-- the state after some of the steps told, all durable ones among them, has each chunk that was
-- queued durably as it was, or not at all, and the next serial is above each of them
abbrev pub QueuedLasts : Type 0
QueuedLasts = (t : JournalLog) (state : State) → IsJournalLog t → IsOfSome t state
    → ((durably t).next ≤ state.next)
    × ((serial : ℕ) (chunk : Chunk) → chunk_at (durably t) serial ≡ Some chunk
    → chunk.stage ≡ Queued → IsNamed serial chunk state)
