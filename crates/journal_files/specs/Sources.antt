-- What a new generation copies from, and what there is of it.
use Rattle.std.specs.Prelude.{ℕ, ◌≡◌, ◌≢◌, ◌<◌, ◌^◌, List, [], length, Option, None, Some, Result, IsOk}
use Rattle.disk_files.specs.Disk.{Disk, reads}
use Rattle.disk_files.specs.Moments.{History}
use Rattle.disk_files.specs.declared.dir.FileNo.{FileNo}
use Rattle.buffer_state.specs.State.{State}
use Rattle.chunk_journal.specs.Places.{Spots, ArePlaced}
use Rattle.file_pieces.specs.Adding.{Adds}
use Rattle.file_pieces.specs.Pieces.{AreWithin, pieces_bytes, total_room}
use Rattle.file_pieces.specs.declared.error.PieceError.{PieceError}
use Rattle.file_pieces.specs.declared.piece.Piece.{Piece}
use Rattle.journal_files.specs.Pieces.{HasNew}

-- the open file has another name than the new one, and these bytes
pub record IsOther (opened : FileNo → Option (List ℕ)) (disk : Disk) (name : List ℕ) (file : FileNo)
    (seen : List ℕ) : Type 0 where
  pub source : List ℕ
  pub source_is : opened file ≡ Some source
  pub apart : source ≢ name
  pub there : reads disk source ≡ Some seen

-- the entries of the chunks lie at these places of the file
pub record HasEntries (opened : FileNo → Option (List ℕ)) (disk : Disk) (name : List ℕ)
    (file : FileNo) (spots : Spots) (state : State) : Type 0 where
  pub seen : List ℕ
  pub other : IsOther opened disk name file seen
  pub small : length seen < 2 ^ 64
  pub placed : ArePlaced seen spots state

-- so they do in the file that there is; and where there is none, there are no chunks
abbrev pub HasSource : (FileNo → Option (List ℕ)) → Disk → List ℕ → Option FileNo → Spots → State
    → Type 0
HasSource opened disk name None spots state = state.chunks ≡ []
HasSource opened disk name (Some file) spots state = HasEntries opened disk name file spots state

-- the pieces come to these bytes
pub record Gives {A : Type 0} (opened : FileNo → Option (List ℕ)) (disk : Disk) (name : List ℕ)
    (file : FileNo) (pieces : List (Piece A)) (bytes : List ℕ) : Type 0 where
  pub seen : List ℕ
  pub other : IsOther opened disk name file seen
  pub within : AreWithin seen pieces
  pub come : pieces_bytes seen pieces ≡ bytes

-- so they do with the file that there is; and where there is none, there are no bytes
abbrev pub CanGive : {A : Type 0} → (FileNo → Option (List ℕ)) → Disk → List ℕ → Option FileNo
    → List (Piece A) → List ℕ → Type 0
CanGive opened disk name None pieces bytes = bytes ≡ []
CanGive opened disk name (Some file) pieces bytes = Gives opened disk name file pieces bytes

-- a new file of this name has some bytes
pub record HasAnyNew (name : List ℕ) (before after : Disk) : Type 0 where
  pub bytes : List ℕ
  pub new : HasNew name bytes before after

-- The pieces are added to a new file where there is a file that they are copied from, or a
-- beginning of them after an error; and nothing where there is none.
abbrev pub Fills : {A D T : Type 0} → (D → Type 0) → (D → History) → (D → FileNo → Option (List ℕ))
    → (D → FileNo → ℕ) → (D → ℕ) → Option FileNo → FileNo → List (Piece A) → D → D
    → Result T PieceError → Type 0
Fills is_honest history opened bytes_left fault_count None to pieces old new result =
    (new ≡ old) × IsOk result
Fills is_honest history opened bytes_left fault_count (Some from) to pieces old new result =
    Adds is_honest history opened bytes_left fault_count from to (total_room pieces)
    (λ seen. AreWithin seen pieces) (λ seen. pieces_bytes seen pieces) old new result
