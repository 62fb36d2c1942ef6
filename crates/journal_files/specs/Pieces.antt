-- What the pieces of opening and renewing do to a disk. (Words of private functions.)
use Rattle.std.specs.Prelude.{ℕ, ◌≡◌, ◌≢◌, ◌⊎◌, ◌<◌, ◌≤◌, List, take, Option, None, Some, IsSome}
use Rattle.std.specs.Ordering.{nat_cmp}
use Rattle.std.specs.BTreeMap.{BTreeMap, get}
use Rattle.disk_files.specs.Disk.{Disk, File, Changes, new_file, with_bytes, flushed, unlinked, with_file, SameDisk, reads}
use Rattle.disk_files.specs.declared.dir.FileNo.{FileNo}
use Rattle.disk_files.specs.Faults.{Rises}
use Rattle.file_pieces.specs.Adding.{Partly}
use Rattle.journal_files.specs.Folders.{journal_name}
use Rattle.journal_files.specs.declared.error.JournalError.{JournalError}
use Rattle.journal_files.specs.declared.error.JournalError.TheVariants.{Fault}

-- a new file of this name has these bytes, of which nothing is certainly on the disk
pub record HasNew (name bytes : List ℕ) (before after : Disk) : Type 0 where
  pub none : before name ≡ None
  pub made : SameDisk after (with_file before name (Some (with_bytes bytes new_file)))

-- a new file of this name has a beginning of these bytes
pub record HasSome (name bytes : List ℕ) (before after : Disk) : Type 0 where
  pub len : ℕ
  pub new : HasNew name (take len bytes) before after

-- a new file of this name has a beginning of these bytes, or nothing changed
abbrev pub IsUnfinished : List ℕ → List ℕ → Disk → Disk → Type 0
IsUnfinished name bytes before after = SameDisk after before ⊎ HasSome name bytes before after

-- these bytes were added, and synced with all before them
abbrev pub sealed : List ℕ → File → File
sealed bytes f = flushed (with_bytes bytes f)

-- nothing changed yet, or some of these bytes were added, or all of them and they are synced with
-- all before them
abbrev pub IsSealing : List ℕ → List ℕ → Disk → Disk → Type 0
IsSealing name bytes before after = SameDisk after before
    ⊎ (Partly name bytes before after ⊎ Changes name (sealed bytes) before after)

-- the file of this name was removed, or the disk is as it was, and the device failed
abbrev pub IsTakenAway : ℕ → ℕ → List ℕ → Disk → Disk → Type 0
IsTakenAway first last name before after = Changes name unlinked before after
    ⊎ (SameDisk after before × Rises first last)

-- the answer is the refusal, or `Fault` where the device failed
pub record AnswersFor (first last : ℕ) (refused answer : JournalError) : Type 0 where
  pub later : first ≤ last
  pub so : ((answer ≡ refused) × (last ≡ first)) ⊎ ((answer ≡ Fault) × Rises first last)

-- the name of no generation below this one
abbrev pub IsAbove : List ℕ → ℕ → List ℕ → Type 0
IsAbove path number name = (n : ℕ) → n < number → name ≢ journal_name path n

-- only generations below this one changed
abbrev pub ChangesBelow : List ℕ → ℕ → Disk → Disk → Type 0
ChangesBelow path number before after = (name : List ℕ) → IsAbove path number name
    → after name ≡ before name

-- these are open files of generations, by their numbers, which are below this one
pub record AreOlder (path : List ℕ) (number : ℕ) (opened : FileNo → Option (List ℕ))
    (older : BTreeMap ℕ FileNo) : Type 0 where
  pub below : (n : ℕ) → IsSome (get nat_cmp older n) → n < number
  pub named : (n : ℕ) (file : FileNo) → get nat_cmp older n ≡ Some file
      → opened file ≡ Some (journal_name path n)

-- no file of this number reads, but one that is among these
abbrev pub IsGoneBut : List ℕ → BTreeMap ℕ FileNo → Disk → ℕ → Type 0
IsGoneBut path older disk n = (reads disk (journal_name path n) ≡ None)
    ⊎ IsSome (get nat_cmp older n)
