-- What contracts see of an open journal.
use Rattle.std.specs.Prelude.{ℕ, ◌≡◌, ◌+◌, ◌≤◌, List, length, Option, Some}
use Rattle.std.specs.List.{AllByRecursion}
use Rattle.disk_files.specs.declared.dir.FileNo.{FileNo}
use Rattle.event_modes.specs.Message.{longest_tag}
use Rattle.buffer_state.specs.State.{Numbered, State}
use Rattle.chunk_journal.specs.Records.{Record, record_bytes, IsRecord}
use Rattle.chunk_journal.specs.Places.{Spots}
use Rattle.journal_files.specs.declared.placing.Placing.{Placing}
use Rattle.journal_files.specs.Folders.{journal_name}
use Rattle.journal_files.specs.Placings.{placing_of}

-- An open journal.
pub record OpenJournal : Type 0 where
  pub path : List ℕ  -- what the names of its files begin with
  pub number : ℕ  -- the generation
  pub file : FileNo  -- the open file of this generation
  pub len : ℕ  -- how many bytes it has told
  pub ready : List ℕ  -- what is told next
  pub places : Spots  -- where in its bytes the entries of live chunks lie
  pub placing : Placing  -- what telling the next does to these places

-- the folder has its file open
abbrev pub IsOpenIn : OpenJournal → (FileNo → Option (List ℕ)) → Type 0
IsOpenIn journal opened = opened journal.file ≡ Some (journal_name journal.path journal.number)

-- no live chunk's tag is too long
abbrev pub HasShortTags : State → Type 0
HasShortTags state = AllByRecursion (λ (numbered : Numbered). length numbered.1.tag
    ≤ longest_tag) state.chunks

-- this record is told next
pub record IsReady (journal : OpenJournal) (item : Record) : Type 0 where
  pub can : IsRecord item
  pub bytes : journal.ready ≡ record_bytes item
  pub placing : journal.placing ≡ placing_of item (journal.len + length journal.ready)
