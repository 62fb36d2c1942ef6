-- What a journal has that goes on in the next generation.
use Rattle.std.proofs.Common.{◌≡◌, ℕ, ◌+◌, ◌<◌, ◌^◌, List, Option, Some, ap, subst, ◌∙◌, arith}
use Rattle.std.specs.Prelude.{IsSome}
use Rattle.disk_files.specs.Disk.{Disk}
use Rattle.disk_files.specs.Moments.{History, LeavesOnly}
use Rattle.disk_files.specs.declared.dir.FileNo.{FileNo}
use Rattle.buffer_state.specs.State.{State}
use Rattle.buffer_state.specs.Steps.{settled, reopened}
use Rattle.chunk_journal.specs.Places.{Spots}
use Rattle.journal_files.specs.Folders.{journal_name, OpensWithin}
use Rattle.journal_files.specs.JournalLogs.{JournalLog, IsOfSome, state_of}
use Rattle.journal_files.specs.Views.{OpenJournal, IsOpenIn}
use Rattle.journal_files.specs.Disks.{Keeps, Recovers, HasNoneFrom, HasAllBelow}
use Rattle.journal_files.specs.Sources.{HasSource}
use Rattle.journal_files.proofs.Beginning.{of_all}
use Rattle.journal_files.proofs.Begun.{own_source}
use Rattle.journal_files.proofs.Names.{same_number}
use Rattle.journal_files.proofs.Renewing.{none_from, recovers_at, all_at, is_some_name}

-- the next generation has this path and number, and copies from the journal's own open file, where
-- entries lie at these places
pub record GoesOnward (opened : FileNo → Option (List ℕ)) (journal : OpenJournal) (path : List ℕ) (number : ℕ) (file : FileNo) (spots : Spots) : Type 0 where
  pub path_is : path ≡ journal.path
  pub number_is : number ≡ journal.number + 1
  pub last : number < 2 ^ 32
  pub spots_are : spots ≡ journal.places
  pub named : opened file ≡ Some (journal_name journal.path journal.number)
  pub small : journal.len < 2 ^ 64

pub onward : (opened : FileNo → Option (List ℕ)) (inside journal : OpenJournal) (path : List ℕ) → path ≡ inside.path → inside ≡ journal → IsOpenIn journal opened → inside.len < 2 ^ 64 → inside.number + 1 < 2 ^ 32
    → GoesOnward opened journal path (inside.number + 1) inside.file inside.places
onward opened inside journal path own is named small last = record {
  path_is = own ∙ ap (λ (j : OpenJournal). j.path) is;
  number_is = ap (λ (j : OpenJournal). j.number + 1) is;
  last = last;
  spots_are = ap (λ (j : OpenJournal). j.places) is;
  named = ap (λ (j : OpenJournal). opened j.file) is ∙ named;
  small = subst (λ (j : OpenJournal). j.len < 2 ^ 64) is small;
}

module _ {opened : FileNo → Option (List ℕ)} {journal : OpenJournal} {path : List ℕ} {number : ℕ} {file : FileNo} {spots : Spots} (on : GoesOnward opened journal path number file spots) where
  -- its file stays open, where each open file does
  pub still : (opened_now : FileNo → Option (List ℕ)) → ((other : FileNo) → IsSome (opened other) → opened_now other ≡ opened other) → opened_now file ≡ Some (journal_name journal.path journal.number)
  still opened_now others = others file (is_some_name _ _ on.named) ∙ on.named

  -- its file is not the new one
  pub own_differs : journal_name journal.path journal.number ≡ journal_name path number → ⊥
  own_differs e =
      let numbers = same_number journal.path journal.number number (omega (arith, on.number_is, on.last)) on.last (e ∙ ap (λ (p : List ℕ). journal_name p number) on.path_is) in
      omega (arith, numbers, on.number_is)

  module _ {old : Disk} {t : JournalLog} (keeps : Keeps journal old t) where
    pub none : HasNoneFrom path old number
    none = none_from journal old t keeps path number on.path_is on.number_is

    pub all : HasAllBelow path old number
    all = all_at journal old t keeps path number on.path_is on.number_is

    pub source : (s : State) → settled (state_of t) ≡ reopened s → HasSource opened old (journal_name path number) (Some file) spots s
    source s means = own_source opened journal old t s path number file spots keeps on.small means on.path_is on.number_is on.last on.spots_are on.named

    -- a stop while the next generation is begun
    pub beginning : (s : State) → settled (state_of t) ≡ reopened s → (before after : History)
        → (Recovers path old t → HasNoneFrom path old number → IsOfSome t (reopened s) → HasSource opened old (journal_name path number) (Some file) spots s → LeavesOnly before after (OpensWithin path t))
        → LeavesOnly before after (OpensWithin journal.path t)
    beginning s means before after moments =
        subst (λ (p : List ℕ). LeavesOnly before after (OpensWithin p t)) on.path_is
        (moments (recovers_at journal old t keeps path number on.path_is on.number_is) none (of_all t s keeps.logged means) (source s means))
