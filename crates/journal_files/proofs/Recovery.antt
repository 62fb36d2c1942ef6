-- Whatever a stop leaves of a journal opens to the state after some of its steps.
use Rattle.std.proofs.Common.{◌≡◌, ⊎_elim, ℕ, ◌<◌, ◌≤◌, ◌^◌, true, false, List, length, take, Option, Some, None, sym, ap, subst, arith, inl}
use Rattle.disk_files.specs.Disk.{File, Disk, Folder, MayStay}
use Rattle.chunk_journal.specs.Journal.{journal_bytes}
use Rattle.journal_files.specs.Folders.{journal_name, IsPassedOver, PassesAbove, OpensWithin}
use Rattle.journal_files.specs.JournalLogs.{JournalLog, records_of}
use Rattle.journal_files.specs.Views.{OpenJournal}
use Rattle.journal_files.specs.Disks.{Keeps, Recovers}
use Rattle.journal_files.proofs.Cuts.{IsDurableCut, durable_cut, sealed_of}

-- the file of a journal on a disk
abbrev pub file_with : List ℕ → ℕ → File
file_with written synced = record { written = written; synced = synced; is_durable = true; is_removed = false }

-- a file that is certainly there is left with what was synced
pub record IsLeft (written : List ℕ) (synced : ℕ) (left : Option (List ℕ)) : Type 0 where
  pub len : ℕ
  pub enough : synced ≤ len
  pub is : left ≡ Some (take len written)

pub left_of : (written : List ℕ) (synced : ℕ) (left : Option (List ℕ)) → MayStay (Some (file_with written synced)) left → IsLeft written synced left
left_of written synced None stays = absurd (⊎_elim (λ gone. cc gone) (λ no. cc no) stays)
left_of written synced (Some bytes) stays = record { len = length bytes; enough = stays.0; is = ap Some (sym stays.1) }

-- where no file ever was, none is left
pub passed_none : (left : Option (List ℕ)) → MayStay None left → IsPassedOver left
passed_none left stays = subst IsPassedOver (sym stays) tt

-- a sealed generation above which nothing counts
pub opens_cut : (path : List ℕ) (folder : Folder) (number : ℕ) (t : JournalLog) (bytes : List ℕ) → 1 ≤ number → number < 2 ^ 32 → folder (journal_name path number) ≡ Some bytes
    → PassesAbove path folder number → IsDurableCut t bytes → OpensWithin path t folder
opens_cut path folder number t bytes first last there above c = record {
  steps = c.cut.steps;
  enough = c.enough;
  begun = c.cut.begun;
  opens = inl (record {
    number = number;
    first = first;
    last = last;
    bytes = bytes;
    there = there;
    above = above;
    means = sealed_of bytes _ c.cut.used c.cut.means;
  });
}

pub recovers : (journal : OpenJournal) (disk : Disk) (t : JournalLog) → Keeps journal disk t → Recovers journal.path disk t
recovers journal disk t keeps folder leaves =
    let name = journal_name journal.path journal.number in
    let written = journal_bytes (records_of t) in
    let left = left_of written keeps.synced (folder name) (subst (λ (f : Option File). MayStay f (folder name)) keeps.there (leaves name)) in
    opens_cut journal.path folder journal.number t (take left.len written) keeps.first keeps.last left.is
    (λ n above below. passed_none (folder (journal_name journal.path n)) (subst (λ (f : Option File). MayStay f (folder (journal_name journal.path n))) (keeps.newest n above below) (leaves (journal_name journal.path n))))
    (durable_cut t keeps.logged left.len (omega (arith, keeps.holds, left.enough)))
