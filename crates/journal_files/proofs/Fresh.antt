-- The generation that opening begins is above all that were ever there.
use Rattle.std.proofs.Common.{◌≡◌, ◌⊎◌, ℕ, ◌+◌, ◌<◌, ◌≤◌, ◌^◌, List, Option, Some, None, refl, sym, subst, ◌∙◌, arith, inl, inr, ⊎_elim}
use Rattle.std.specs.Prelude.{IsSome}
use Rattle.std.specs.Ordering.{nat_cmp}
use Rattle.std.specs.BTreeMap.{BTreeMap, get}
use Rattle.disk_files.specs.declared.dir.FileNo.{FileNo}
use Rattle.disk_files.specs.Disk.{File, Disk, SameDisk, WasRemoved, read_of, reads}
use Rattle.journal_files.specs.Folders.{journal_name, IsNext}
use Rattle.journal_files.specs.JournalLogs.{JournalLog}
use Rattle.journal_files.specs.Views.{OpenJournal}
use Rattle.journal_files.specs.Disks.{Keeps, HasNoneFrom, HasAllBelow, HasNoGap}
use Rattle.journal_files.specs.Found.{IsFound, IsLastTaken}
use Rattle.journal_files.proofs.Names.{same_number}
use Rattle.journal_files.specs.Pieces.{IsAbove, IsGoneBut}
use Rattle.journal_files.proofs.Strays.{none_of, not_some, same_below}
use Rattle.journal_files.proofs.Beginning.{kept_above}

-- what holds of a name whose file was removed, of a disk that is the same
pub removed_same : (a b : Disk) (name : List ℕ) → SameDisk a b → WasRemoved a name → WasRemoved b name
removed_same a b name same = subst (λ (o : Option File). IsSome o × (read_of o ≡ None)) (same name)

-- the greatest that is there, and removed ones behind it
pub last_taken_so : (path : List ℕ) (disk mid : Disk) (there taken : ℕ) → SameDisk mid disk → IsFound path (reads disk) there → there ≤ taken → (taken ≡ there) ⊎ WasRemoved mid (journal_name path taken)
    → (WasRemoved mid (journal_name path (taken + 1)) → ⊥) → IsLastTaken path disk taken
last_taken_so path disk mid there taken same found from own free = record {
  begun = ⊎_elim
      (λ is. ⊎_elim (λ zero_is. inl (omega (arith, is, zero_is))) (λ some. inr (inl (subst (λ (n : ℕ). IsSome (reads disk (journal_name path n))) (sym is) some))) found.there)
      (λ removed. inr (inr (removed_same mid disk (journal_name path taken) same removed))) own;
  above = λ n over below. found.above n (omega (arith, over, from)) below;
  free = λ removed. free (removed_same disk mid (journal_name path (taken + 1)) (λ name. sym (same name)) removed);
}

-- none above it was ever begun
pub none_above : (path : List ℕ) (disk mid : Disk) (greatest number : ℕ) → number ≡ greatest + 1 → IsLastTaken path disk greatest → HasNoGap path disk → SameDisk mid disk → HasNoneFrom path mid number
none_above path disk mid greatest number is taken gap same n from below =
    let free : disk (journal_name path (greatest + 1)) ≡ None =
    none_of (disk (journal_name path (greatest + 1))) (λ some. taken.free (some, taken.above (greatest + 1) (omega arith) (omega (arith, from, is, below)))) in
    same (journal_name path n) ∙ gap (greatest + 1) (omega arith) free (λ m over within. taken.above m (omega (arith, over)) within) n (omega (arith, from, is)) below

-- and all up to it were, or are below one that reads
up_to_read : (path : List ℕ) (disk : Disk) (greatest : ℕ) → HasNoGap path disk → greatest + 1 < 2 ^ 32 → (greatest ≡ 0) ⊎ (IsSome (reads disk (journal_name path greatest)) ⊎ WasRemoved disk (journal_name path greatest))
    → HasAllBelow path disk (greatest + 1)
up_to_read path disk greatest gap last (inl none) k low under free unread = absurd (omega (arith, none, low, under))
up_to_read path disk greatest gap last (inr (inl there)) k low under free unread =
    not_some (reads disk (journal_name path greatest)) (unread greatest (omega (arith, under)) (omega (arith, last))) there
up_to_read path disk greatest gap last (inr (inr removed)) k low under free unread =
    not_some (disk (journal_name path greatest)) (gap k low free unread greatest (omega (arith, under)) (omega (arith, last))) removed.0

pub all_below : (path : List ℕ) (disk mid : Disk) (greatest : ℕ) → IsLastTaken path disk greatest → HasNoGap path disk → greatest + 1 < 2 ^ 32 → SameDisk mid disk → HasAllBelow path mid (greatest + 1)
all_below path disk mid greatest taken gap last same = same_below path disk mid (greatest + 1) same (up_to_read path disk greatest gap last taken.begun)

-- the names of this generation and those above are of none below
pub is_above : (path : List ℕ) (number n : ℕ) → number ≤ n → n < 2 ^ 32 → IsAbove path number (journal_name path n)
is_above path number n from below m lt e = let same = same_number path n m below (omega (arith, lt, from, below)) e in omega (arith, same, lt, from)

pub keeps_alone : (path : List ℕ) (number : ℕ) (journal : OpenJournal) (mid new : Disk) (t : JournalLog) → journal.path ≡ path → journal.number ≡ number → Keeps journal mid t
    → ((name : List ℕ) → IsAbove path number name → new name ≡ mid name) → Keeps journal new t
keeps_alone path number journal mid new t path_is number_is keeps elsewhere =
    kept_above journal mid new t keeps
    (λ n from below. subst (λ (p : List ℕ). new (journal_name p n) ≡ mid (journal_name p n)) (sym path_is) (elsewhere (journal_name path n) (is_above path number n (omega (arith, from, number_is)) below)))

pub own_is_above : (path : List ℕ) (number : ℕ) (journal : OpenJournal) → journal.path ≡ path → journal.number ≡ number → number < 2 ^ 32 → IsAbove path number (journal_name journal.path journal.number)
own_is_above path number journal path_is number_is last =
    subst (λ (p : List ℕ). IsAbove path number (journal_name p journal.number)) (sym path_is) (is_above path number journal.number (omega (arith, number_is)) (omega (arith, number_is, last)))

-- what is there of a generation below, once the new one was begun
pub opened_alone : (path : List ℕ) (number n : ℕ) (files : BTreeMap ℕ FileNo) (old mid new : Disk) → number < 2 ^ 32 → n < number → SameDisk mid old → ((name : List ℕ) → (name ≡ journal_name path number → ⊥) → new name ≡ mid name)
    → IsGoneBut path files old n → IsGoneBut path files new n
opened_alone path number n files old mid new last under same elsewhere gone =
    let name = journal_name path n in
    let is : new name ≡ old name = elsewhere name (λ e. let numbers = same_number path n number (omega (arith, under, last)) last e in omega (arith, numbers, under)) ∙ same name in
    subst (λ (o : Option File). (read_of o ≡ None) ⊎ IsSome (get nat_cmp files n)) (sym is) gone

-- a file that reads, or was removed, was begun
ever_begun : (o : Option File) → IsSome (read_of o) ⊎ (IsSome o × (read_of o ≡ None)) → IsSome o
ever_begun None (inl some) = absurd (cc some)
ever_begun None (inr removed) = removed.0
ever_begun (Some f) begun = refl

-- the number above the last that is taken is the next
pub is_next : (path : List ℕ) (disk : Disk) (greatest number : ℕ) → number ≡ greatest + 1 → IsLastTaken path disk greatest → IsNext path disk number
is_next path disk greatest number is taken = subst (IsNext path disk) (sym is) (record {
  some = omega arith;
  before = ⊎_elim (λ none. inl (omega (arith, none)))
      (λ begun. inr (subst (λ (n : ℕ). IsSome (disk (journal_name path n))) (omega arith) (ever_begun (disk (journal_name path greatest)) begun))) taken.begun;
  above = λ n from below. taken.above n (omega (arith, from)) below;
})
