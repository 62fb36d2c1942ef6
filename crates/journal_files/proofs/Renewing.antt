-- A journal goes on in the next generation.
use Rattle.std.proofs.Common.{◌≡◌, ◌⊎◌, ⊎_elim, ℕ, ◌+◌, ◌<◌, ◌≤◌, ◌^◌, false, List, Option, Some, None, option_map, Result, OnOk, OnErr, refl, sym, ap, subst, ◌∙◌, arith, inr}
use Rattle.std.specs.Prelude.{◌≢◌, IsSome}
use Rattle.std.specs.Str.{bytes_eq}
use Rattle.std.proofs.lemmas.Option.{same_Some}
use Rattle.disk_files.specs.Disk.{File, Disk, SameDisk, Changes, unlinked, read_of, reads}
use Rattle.disk_files.specs.Moments.{History, now, Elapses, LeavesOnly}
use Rattle.disk_files.specs.declared.dir.FileNo.{FileNo}
use Rattle.disk_files.proofs.Moments.{here, elsewhere, goes_on}
use Rattle.buffer_state.specs.State.{State}
use Rattle.buffer_state.specs.Steps.{settled, reopened}
use Rattle.journal_files.specs.Folders.{journal_name, OpensWithin}
use Rattle.journal_files.specs.JournalLogs.{JournalLog, state_of, new_generation, IsOfSome}
use Rattle.journal_files.specs.Views.{OpenJournal, IsOpenIn}
use Rattle.journal_files.specs.Disks.{Keeps, Recovers, HasNoneFrom, HasAllBelow}
use Rattle.journal_files.proofs.Names.{same_number, numbers_apart, apart}
use Rattle.journal_files.proofs.Recovery.{recovers}
use Rattle.journal_files.proofs.Steps.{either}
use Rattle.journal_files.proofs.Strays.{not_some}
use Rattle.journal_files.proofs.Beginning.{kept_above, renewed}

-- what the older generation gives to begin with
module _ (journal : OpenJournal) (old : Disk) (t : JournalLog) (keeps : Keeps journal old t) (path : List ℕ) (number : ℕ) (path_is : path ≡ journal.path) (number_is : number ≡ journal.number + 1) where
  pub none_from : HasNoneFrom path old number
  none_from n from below = ap (λ (p : List ℕ). old (journal_name p n)) path_is ∙ keeps.newest n (omega (arith, from, number_is)) below

  pub recovers_at : Recovers path old t
  recovers_at = subst (λ (p : List ℕ). Recovers p old t) (sym path_is) (recovers journal old t keeps)

  pub all_at : HasAllBelow path old number
  all_at k low under free unread =
      not_some (reads old (journal_name path journal.number)) (unread journal.number (omega (arith, under, number_is)) keeps.last)
      (subst (λ (p : List ℕ). IsSome (reads old (journal_name p journal.number))) (sym path_is) (subst (λ (o : Option File). IsSome (read_of o)) (sym keeps.there) refl))

-- the older file is removed
module _ (journal next : OpenJournal) (mid new : Disk) (path_is : next.path ≡ journal.path) (number_is : next.number ≡ journal.number + 1) (last : journal.number < 2 ^ 32) where
  stays_apart : (n : ℕ) → next.number ≤ n → n < 2 ^ 32 → bytes_eq (journal_name journal.path journal.number) (journal_name next.path n) ≡ false
  stays_apart n from below =
      subst (λ (p : List ℕ). bytes_eq (journal_name journal.path journal.number) (journal_name p n) ≡ false) (sym path_is)
      (numbers_apart journal.path journal.number n last below (λ e. omega (arith, e, from, number_is)))

  pub still_keeps : (s : State) → Keeps next mid (new_generation s) → SameDisk new mid ⊎ Changes (journal_name journal.path journal.number) unlinked mid new → Keeps next new (new_generation s)
  still_keeps s keeps removed =
      kept_above next mid new (new_generation s) keeps
      (λ n from below. ⊎_elim (λ same. same (journal_name next.path n))
      (λ changes. elsewhere mid new (journal_name journal.path journal.number) (journal_name next.path n) _ changes (stays_apart n from below)) removed)

  pub still_recovers : (t : JournalLog) (s : State) → settled (state_of (new_generation s)) ≡ reopened s → IsOfSome t (reopened s) → Keeps next mid (new_generation s)
      → SameDisk new mid ⊎ Changes (journal_name journal.path journal.number) unlinked mid new → Recovers journal.path new t
  still_recovers t s leads m begun removed folder leaves =
      let w = recovers next new (new_generation s) (still_keeps s begun removed) folder leaves in
      renewed journal.path t s folder leads m (subst (λ (p : List ℕ). OpensWithin p (new_generation s) folder) path_is w)

-- the two files are two open files
pub two_files : (opened : FileNo → Option (List ℕ)) (journal next : OpenJournal) → next.path ≡ journal.path → next.number ≡ journal.number + 1 → next.number < 2 ^ 32
    → opened journal.file ≡ Some (journal_name journal.path journal.number) → IsOpenIn next opened → next.file ≡ journal.file → ⊥
two_files opened journal next path_is number_is last here there same =
    let names : journal_name journal.path next.number ≡ journal_name journal.path journal.number =
    same_Some _ _ (ap (λ (p : List ℕ). Some (journal_name p next.number)) (sym path_is) ∙ sym there ∙ ap opened same ∙ here) in
    let numbers = same_number journal.path next.number journal.number last (omega (arith, last, number_is)) names in
    absurd (omega (arith, numbers, number_is))

pub is_some_name : {A : Type 0} (o : Option A) (x : A) → o ≡ Some x → IsSome o
is_some_name o x is = subst IsSome (sym is) refl

-- a removed file doesn't read
pub unlinked_gone : (o : Option File) → read_of (option_map unlinked o) ≡ None
unlinked_gone None = refl
unlinked_gone (Some f) = refl

pub removed_gone : (name : List ℕ) (old new : Disk) → Changes name unlinked old new → reads new name ≡ None
removed_gone name old new changes = ap read_of (here old new name _ changes) ∙ unlinked_gone (old name)

-- a removal at each of its moments
pub removing : {T E : Type 0} (path : List ℕ) (t : JournalLog) (name : List ℕ) (old mid new : History) (result : Result T E) → LeavesOnly old mid (OpensWithin path t) → Elapses mid new
    → ((disk : Disk) → SameDisk disk (now mid) ⊎ Changes name unlinked (now mid) disk → Recovers path disk t)
    → OnOk result (Changes name unlinked (now mid) (now new)) → OnErr result (SameDisk (now new) (now mid) ⊎ Changes name unlinked (now mid) (now new)) → LeavesOnly old new (OpensWithin path t)
removing path t name old mid new result so_far time still ok err =
    goes_on old mid new (OpensWithin path t) so_far time (still (now new) (either result ok err (λ changes. inr changes) (λ some. some)))

-- a generation is made and another one is removed, or not: files of other names stay
pub others_beyond : (old mid new : Disk) (own next name : List ℕ) → ((other : List ℕ) → other ≢ next → mid other ≡ old other) → SameDisk new mid ⊎ Changes own unlinked mid new
    → name ≢ own → name ≢ next → new name ≡ old name
others_beyond old mid new own next name begun removed not_own not_next =
    ⊎_elim (λ same. same name) (λ changes. elsewhere mid new own name _ changes (apart own name (λ e. not_own (sym e)))) removed ∙ begun name not_next
