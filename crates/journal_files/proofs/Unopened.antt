-- Why a journal isn't opened, and what is left then.
use Rattle.std.proofs.Common.{◌≡◌, ℕ, ◌-◌, ◌^◌, List, ◌⊎◌, refl, subst, sym, Result, Err}
use Rattle.std.specs.Prelude.{◌≢◌, IfErr, IsSome}
use Rattle.disk_files.specs.Disk.{Disk, SameDisk, StopLeaves, reads}
use Rattle.disk_files.specs.declared.dir.DirError.{DirError}
use Rattle.chunk_journal.specs.Laws.{AnswersOneWay}
use Rattle.journal_files.specs.declared.error.JournalError.{JournalError}
use Rattle.journal_files.specs.declared.error.JournalError.TheVariants as refusal
use Rattle.journal_files.specs.Faults.{dir_error}
use Rattle.journal_files.specs.Folders.{journal_name, IsDamagedFolder, IsNext}
use Rattle.journal_files.specs.Disks.{HasNoGap}
use Rattle.journal_files.specs.Leftovers.{ReadsAs, LeavesAtMost}
use Rattle.journal_files.specs.Openings.{IsRefused}
use Rattle.journal_files.proofs.OneWay.{undamaged}
use Rattle.journal_files.proofs.Reasons.{dir_undamaged, dir_numbered}

-- what is so of the error that is answered
pub if_err : {T E : Type 0} (P : E → Type 0) (e : E) (r : Result T E) → r ≡ Err e → P e → IfErr r P
if_err {T = T} {E = E} P e r answer so = subst (λ (q : Result T E). IfErr q P) (sym answer) so

-- nothing but want of memory is left
begun_memory : (e : JournalError) → e ≢ refusal.Damaged → e ≢ refusal.LastGeneration → e ≢ refusal.Fault → e ≡ refusal.Memory
begun_memory refusal.Memory whole numbered not = refl
begun_memory refusal.Fault whole numbered not = absurd (not refl)
begun_memory refusal.Damaged whole numbered not = absurd (whole refl)
begun_memory refusal.LastGeneration whole numbered not = absurd (numbered refl)

module _ (path : List ℕ) (faults new_faults : ℕ) (old new : Disk) where
  -- what is left of the next generation
  abbrev IsLeft : Type 0
  IsLeft = ReadsAs old new ⊎ ((number : ℕ) × IsNext path old number × LeavesAtMost path number faults new_faults old new)

  -- the folder was searched
  pub search_refused : (law : AnswersOneWay) → StopLeaves old (reads old) → (e : JournalError) → (e ≡ refusal.Damaged → IsDamagedFolder path (reads old))
      → (e ≡ refusal.LastGeneration → IsSome (reads old (journal_name path (2 ^ 32 - 1)))) → (IsSome (reads old (journal_name path (2 ^ 32 - 1))) → e ≢ refusal.Damaged)
      → SameDisk new old → (HasNoGap path old → IsLeft) → IsRefused path faults new_faults old new e
  search_refused law stays e damaged last unread same left = record {
    damaged = damaged;
    undamaged = λ t before is. undamaged law path (reads old) _ (before (reads old) stays).opens (damaged is);
    last = last;
    unread = unread;
    unchanged = λ _. same;
    left = left;
  }

  -- the folder refused a call
  pub call_refused : (e : DirError) → (dir_error e ≢ refusal.Fault → SameDisk new old) → (HasNoGap path old → IsLeft)
      → IsRefused path faults new_faults old new (dir_error e)
  call_refused e unchanged left = record {
    damaged = λ is. absurd (dir_undamaged e is);
    undamaged = λ t before. dir_undamaged e;
    last = λ is. absurd (dir_numbered e is);
    unread = λ there. dir_undamaged e;
    unchanged = unchanged;
    left = left;
  }

  -- the next generation isn't begun
  pub begin_refused : (e : JournalError) → e ≢ refusal.Damaged → e ≢ refusal.LastGeneration → (e ≡ refusal.Memory → SameDisk new old)
      → (HasNoGap path old → IsLeft) → IsRefused path faults new_faults old new e
  begin_refused e whole numbered memory left = record {
    damaged = λ is. absurd (whole is);
    undamaged = λ t before. whole;
    last = λ is. absurd (numbered is);
    unread = λ there. whole;
    unchanged = λ not. memory (begun_memory e whole numbered not);
    left = left;
  }
