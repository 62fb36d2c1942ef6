-- A journal is opened: what a stop leaves at each moment, and what is there at the end.
use Rattle.std.proofs.Common.{◌≡◌, ℕ, List, subst}
use Rattle.disk_files.specs.Disk.{Disk, SameDisk}
use Rattle.disk_files.specs.Moments.{History, now, Elapses, LeavesOnly}
use Rattle.disk_files.proofs.Moments.{started, rests, joined, weaker, leaves_same}
use Rattle.buffer_state.specs.State.{State}
use Rattle.buffer_state.specs.Steps.{settled, reopened}
use Rattle.journal_files.specs.Folders.{OpensWithin}
use Rattle.journal_files.specs.JournalLogs.{JournalLog, state_of, new_generation as opened_with, IsOfSome}
use Rattle.journal_files.specs.Views.{OpenJournal}
use Rattle.journal_files.specs.Disks.{Keeps, Recovers, HasNoGap}
use Rattle.journal_files.specs.Leftovers.{IsWholeAt}
use Rattle.file_pieces.specs.Adding.{IsLeftOf}
use Rattle.journal_files.specs.Pieces.{ChangesBelow}
use Rattle.journal_files.proofs.Beginning.{renewed}
use Rattle.journal_files.proofs.Fresh.{keeps_alone}
use Rattle.journal_files.proofs.Recovery.{recovers}
use Rattle.journal_files.proofs.Strays.{kept_no_gap}

pub recovers_same : (path : List ℕ) (t : JournalLog) (old new : Disk) → SameDisk new old → Recovers path old t → Recovers path new t
recovers_same path t old new same before folder leaves = before folder (leaves_same new old folder same leaves)

-- a call that leaves the disk as it was
pub quiet : (path : List ℕ) (t : JournalLog) (old new : History) → Recovers path (now old) t → Elapses old new → SameDisk (now new) (now old) → LeavesOnly old new (OpensWithin path t)
quiet path t old new before time same = rests old old new (OpensWithin path t) (started old (OpensWithin path t) before) time same

-- two such calls, one after another
pub looked : (path : List ℕ) (t : JournalLog) (old mid new : History) → Recovers path (now old) t → Elapses old mid → SameDisk (now mid) (now old) → Elapses mid new → SameDisk (now new) (now mid) → LeavesOnly old new (OpensWithin path t)
looked path t old mid new before mid_time mid_same new_time new_same = rests old mid new (OpensWithin path t) (quiet path t old mid before mid_time mid_same) new_time new_same

-- the older generations are removed
module _ (path : List ℕ) (number : ℕ) (journal : OpenJournal) (mid : Disk) (s : State) (path_is : journal.path ≡ path) (number_is : journal.number ≡ number) (keeps : Keeps journal mid (opened_with s)) where
  pub keeps_still : (new : Disk) → ChangesBelow path number mid new → Keeps journal new (opened_with s)
  keeps_still new below = keeps_alone path number journal mid new (opened_with s) path_is number_is keeps below

  pub no_gap_still : (new : Disk) → ChangesBelow path number mid new → HasNoGap path new
  no_gap_still new below = subst (λ (p : List ℕ). HasNoGap p new) path_is (kept_no_gap journal new (opened_with s) (keeps_still new below))

  pub whole_still : (new : Disk) → ChangesBelow path number mid new → IsWholeAt path number new
  whole_still new below = record { journal = journal; chunks = s; path_is = path_is; number_is = number_is; keeps = keeps_still new below }

  pub opens_still : (t : JournalLog) → settled (state_of (opened_with s)) ≡ reopened s → IsOfSome t (reopened s) → (new : Disk) → ChangesBelow path number mid new → Recovers path new t
  opens_still t leads m new below folder leaves =
      renewed path t s folder leads m (subst (λ (p : List ℕ). OpensWithin p (opened_with s) folder) path_is (recovers journal new (opened_with s) (keeps_still new below) folder leaves))

  pub removed_so : (t : JournalLog) → settled (state_of (opened_with s)) ≡ reopened s → IsOfSome t (reopened s) → (old here new : History) → now here ≡ mid → LeavesOnly old here (OpensWithin path t)
      → LeavesOnly here new (IsLeftOf (ChangesBelow path number mid)) → LeavesOnly old new (OpensWithin path t)
  removed_so t leads m old here new is so_far removing =
      joined old here new (OpensWithin path t) so_far
      (weaker here new (IsLeftOf (ChangesBelow path number mid)) (OpensWithin path t) (λ folder left. opens_still t leads m left.disk left.so folder left.stays) removing)
