-- What the file of a journal that is whole has.
use Rattle.std.proofs.Common.{◌≡◌, ℕ, ◌<◌, ◌^◌, List, length, Some, ap, subst, sym, ◌∙◌, arith}
use Rattle.std.specs.List.{AllByRecursion}
use Rattle.disk_files.specs.Disk.{Disk, reads, read_of}
use Rattle.chunk_journal.specs.Journal.{journal_bytes}
use Rattle.chunk_journal.specs.Places.{IsWithin, bytes_at, places_at, entries_at}
use Rattle.chunk_journal.specs.declared.places.Extent.{Extent}
use Rattle.journal_files.specs.Folders.{journal_name}
use Rattle.journal_files.specs.JournalLogs.{JournalLog, records_of, state_of}
use Rattle.journal_files.specs.Views.{OpenJournal}
use Rattle.journal_files.specs.Disks.{Keeps}

module _ (journal : OpenJournal) (disk : Disk) (t : JournalLog) (keeps : Keeps journal disk t) where
  pub reads_told : reads disk (journal_name journal.path journal.number) ≡ Some (journal_bytes (records_of t))
  reads_told = ap read_of keeps.there

  pub few_told : journal.len < 2 ^ 64 → length (journal_bytes (records_of t)) < 2 ^ 64
  few_told small = omega (arith, keeps.counted, small)

  -- the places of a chunk's entries
  module _ (serial : ℕ) (extents : List Extent) (is : extents ≡ places_at journal.places serial) where
    pub within_told : AllByRecursion (IsWithin (length (journal_bytes (records_of t)))) extents
    within_told = subst (AllByRecursion (IsWithin (length (journal_bytes (records_of t))))) (sym is) (keeps.placed serial).0

    pub lie_told : bytes_at (journal_bytes (records_of t)) extents ≡ entries_at (state_of t) serial
    lie_told = ap (bytes_at (journal_bytes (records_of t))) is ∙ (keeps.placed serial).1
