-- No generation that was ever begun is above all that read.
use Rattle.std.proofs.Common.{◌≡◌, ℕ, ◌<◌, ◌≤◌, ◌^◌, List, Option, Some, None, option_map, refl, sym, ap, subst, ◌∙◌, arith, inl, inr, ⊎_elim}
use Rattle.std.specs.Prelude.{IsSome}
use Rattle.std.proofs.lemmas.Bool.{cases_eq, cases_lt}
use Rattle.disk_files.specs.Disk.{File, Disk, Folder, SameDisk, Changes, with_bytes, kept_file, after_stop, read_of, reads}
use Rattle.disk_files.proofs.Moments.{here, elsewhere}
use Rattle.journal_files.specs.Folders.{journal_name}
use Rattle.journal_files.specs.JournalLogs.{JournalLog}
use Rattle.journal_files.specs.Views.{OpenJournal}
use Rattle.journal_files.specs.Disks.{Keeps, HasNoneFrom, HasNoStray, HasAllBelow, HasNoGap}
use Rattle.journal_files.proofs.Names.{same_number, numbers_apart}

pub not_some : {A : Type 0} (o : Option A) → o ≡ None → IsSome o → ⊥
not_some o is some = let gone = subst IsSome is some in cc gone

at_most : {A : Type 0} (o : Option A) (number n : ℕ) → (number < n → o ≡ None) → IsSome o → n ≤ number
at_most o number n none some =
    elim (cases_lt number n) [
      | inl lt ↦ absurd (not_some o (none lt) some)
      | inr le ↦ le
    ]

-- a generation that reads, above which none was begun
pub highest_reads : (path : List ℕ) (disk : Disk) (number : ℕ) → number < 2 ^ 32 → IsSome (reads disk (journal_name path number))
    → ((n : ℕ) → number < n → n < 2 ^ 32 → disk (journal_name path n) ≡ None) → HasNoStray path disk
highest_reads path disk number last there above n from below some = record {
  number = number;
  above = at_most (disk (journal_name path n)) number n (λ over. above n over below) some;
  last = last;
  there = there;
}

pub kept_no_stray : (journal : OpenJournal) (disk : Disk) (t : JournalLog) → Keeps journal disk t → HasNoStray journal.path disk
kept_no_stray journal disk t keeps =
    highest_reads journal.path disk journal.number keeps.last (subst (λ (o : Option File). IsSome (read_of o)) (sym keeps.there) refl) keeps.newest

left_reads : (left : Option (List ℕ)) → IsSome (option_map kept_file left) → IsSome (read_of (option_map kept_file left))
left_reads None some = absurd (cc some)
left_reads (Some bytes) some = refl

pub left_no_stray : (path : List ℕ) (folder : Folder) → HasNoStray path (after_stop folder)
left_no_stray path folder n from below some = record {
  number = n;
  above = omega arith;
  last = below;
  there = left_reads (folder (journal_name path n)) some;
}

pub same_stray : (path : List ℕ) (old new : Disk) → SameDisk new old → HasNoStray path old → HasNoStray path new
same_stray path old new same stray n from below some =
    let b = stray n from below (subst IsSome (same (journal_name path n)) some) in
    record {
      number = b.number;
      above = b.above;
      last = b.last;
      there = subst (λ (o : Option File). IsSome (read_of o)) (sym (same (journal_name path b.number))) b.there;
    }

-- more was told, whole or not
pub grown_no_stray : (journal : OpenJournal) (old new : Disk) (t : JournalLog) (bytes : List ℕ) → Keeps journal old t → Changes (journal_name journal.path journal.number) (with_bytes bytes) old new → HasNoStray journal.path new
grown_no_stray journal old new t bytes keeps changes =
    let name = journal_name journal.path journal.number in
    let at = here old new name _ changes ∙ ap (option_map (with_bytes bytes)) keeps.there in
    highest_reads journal.path new journal.number keeps.last (subst (λ (o : Option File). IsSome (read_of o)) (sym at) refl)
    (λ n above below. elsewhere old new name (journal_name journal.path n) _ changes (numbers_apart journal.path journal.number n keeps.last below (λ e. omega (arith, e, above))) ∙ keeps.newest n above below)

pub none_of : {A : Type 0} (o : Option A) → (IsSome o → ⊥) → o ≡ None
none_of None no_some = refl
none_of (Some x) no_some = absurd (no_some refl)

-- where none is above all that read, those that were removed leave no gap
pub no_gap_of : (path : List ℕ) (disk : Disk) → HasNoStray path disk → HasNoGap path disk
no_gap_of path disk stray number low free unread n from below = none_of (disk (journal_name path n)) (λ some.
    let b = stray n (omega (arith, low, from)) below some in
    not_some (reads disk (journal_name path b.number)) (unread b.number (omega (arith, from, b.above)) b.last) b.there)

pub kept_no_gap : (journal : OpenJournal) (disk : Disk) (t : JournalLog) → Keeps journal disk t → HasNoGap journal.path disk
kept_no_gap journal disk t keeps = no_gap_of journal.path disk (kept_no_stray journal disk t keeps)

-- what holds of a disk that is the same

pub same_below : (path : List ℕ) (old new : Disk) (number : ℕ) → SameDisk new old → HasAllBelow path old number → HasAllBelow path new number
same_below path old new number same all k low under free unread =
    all k low under (sym (same (journal_name path k)) ∙ free) (λ n from below. ap read_of (sym (same (journal_name path n))) ∙ unread n from below)

pub same_gap : (path : List ℕ) (old new : Disk) → SameDisk new old → HasNoGap path old → HasNoGap path new
same_gap path old new same gap number low free unread n from below =
    same (journal_name path n) ∙ gap number low (sym (same (journal_name path number)) ∙ free) (λ m over within. ap read_of (sym (same (journal_name path m))) ∙ unread m over within) n from below

-- a generation is begun that is the next one
pub begun_no_gap : (path : List ℕ) (number : ℕ) (old new : Disk) → number < 2 ^ 32 → HasNoneFrom path old number → HasAllBelow path old number
    → ((name : List ℕ) → (name ≡ journal_name path number → ⊥) → new name ≡ old name) → HasNoGap path new
begun_no_gap path number old new last none all elsewhere k low free unread n from below =
    let still : (m : ℕ) → m < 2 ^ 32 → (number ≡ m → ⊥) → new (journal_name path m) ≡ old (journal_name path m) =
    λ m within differ. elsewhere (journal_name path m) (λ e. differ (sym (same_number path m number within last e))) in
    let unread_then : (m : ℕ) → k ≤ m → m < 2 ^ 32 → reads old (journal_name path m) ≡ None =
    λ m over within. ⊎_elim (λ same. ap read_of (none m (omega (arith, same)) within)) (λ differ. ap read_of (sym (still m within differ)) ∙ unread m over within) (cases_eq number m) in
    elim (cases_lt k number) [
      | inl lt ↦ absurd (all k low lt (sym (still k (omega (arith, lt, last)) (λ e. omega (arith, e, lt))) ∙ free) unread_then)
      | inr le ↦ elim (cases_lt number n) [
        | inl over ↦ still n below (λ e. omega (arith, e, over)) ∙ none n (omega (arith, over)) below
        | inr under ↦ subst (λ (m : ℕ). new (journal_name path m) ≡ None) (omega (arith, le, from, under)) free
      ]
    ]
