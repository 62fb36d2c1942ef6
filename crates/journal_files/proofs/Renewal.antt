-- Why a journal isn't renewed.
use Rattle.std.proofs.Common.{◌≡◌, ℕ, ◌+◌, ◌<◌, ◌^◌, Result, Err, refl, sym, subst, ◌∙◌, arith}
use Rattle.std.specs.Prelude.{◌≢◌, IsErrOf}
use Rattle.disk_files.specs.Disk.{SameDisk}
use Rattle.disk_files.specs.Moments.{History, LeavesOnly, now}
use Rattle.buffer_state.specs.State.{State}
use Rattle.journal_files.specs.Calls.{Renews, RefusesRenewal}
use Rattle.journal_files.specs.Folders.{OpensWithin}
use Rattle.journal_files.specs.JournalLogs.{JournalLog}
use Rattle.journal_files.specs.Views.{OpenJournal}
use Rattle.journal_files.specs.Disks.{Recovers}
use Rattle.journal_files.specs.Leftovers.{LeavesAtMost}
use Rattle.disk_files.specs.declared.dir.DirError.{DirError}
use Rattle.disk_files.specs.declared.dir.DirError.TheVariants as dir
use Rattle.journal_files.specs.Faults.{dir_error}
use Rattle.journal_files.specs.declared.error.JournalError.{JournalError}
use Rattle.journal_files.specs.declared.error.JournalError.TheVariants as refusal
use Rattle.journal_files.proofs.Reasons.{fault_only}

-- the older file isn't removed: that is no want of memory
pub removal_memory : {T : Type 0} (e : DirError) → IsErrOf {T = T} (Err e) dir.Fault → dir_error e ≢ refusal.Memory
removal_memory e only is = let fault = fault_only e only in let z = sym fault ∙ is in cc z

-- a refused renewal
pub renews_not : {T : Type 0} (old new : OpenJournal) (chunks : State) (first last : ℕ) (before after : History) (t : JournalLog) (e : JournalError) (r : Result T JournalError) → r ≡ Err e
    → e ≢ refusal.Damaged → (e ≡ refusal.Fault → Recovers old.path (now after) t) → LeavesAtMost old.path (old.number + 1) first last (now before) (now after)
    → LeavesOnly before after (OpensWithin old.path t) → Renews old new chunks first last before after t r
renews_not {T = T} old new chunks first last before after t e r answer whole fault left moments =
    subst (λ (q : Result T JournalError). Renews old new chunks first last before after t q) (sym answer)
    (record { ok = tt; whole = λ is. whole (cc is); fault = λ is. fault (cc is); left = left; moments = moments })

pub refuses_not : {D T : Type 0} (is_honest : D → Type 0) (history : D → History) (journal : OpenJournal) (old new : D) (e : JournalError) (r : Result T JournalError) → r ≡ Err e
    → e ≢ refusal.LastGeneration → journal.number + 1 < 2 ^ 32 → (is_honest old → e ≡ refusal.Memory → SameDisk (now (history new)) (now (history old)))
    → RefusesRenewal is_honest history journal journal old new r
refuses_not {T = T} is_honest history journal old new e r answer numbered few memory =
    subst (λ (q : Result T JournalError). RefusesRenewal is_honest history journal journal old new q) (sym answer)
    (record {
      journal_is = refl;
      last = (λ is. absurd (numbered (cc is)), λ many. absurd (omega (arith, many, few)));
      unchanged = λ honest is. absurd (numbered (cc is));
      memory_same = λ honest is. memory honest (cc is);
    })
