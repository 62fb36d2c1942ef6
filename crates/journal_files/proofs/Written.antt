-- The pieces in which a generation comes to stand.
use Rattle.std.proofs.Common.{◌≡◌, ◌⊎◌, ℕ, List, length, take, Option, Some, None, option_map, Result, OnOk, OnErr, refl, sym, subst, ◌∙◌, arith, inl, inr}
use Rattle.std.proofs.lemmas.List.{take_all}
use Rattle.disk_files.specs.Disk.{File, Disk, Folder, StopLeaves, SameDisk, Makes, Changes, new_file, with_bytes, flushed, with_file}
use Rattle.disk_files.specs.Moments.{History, now, Elapses, LeavesOnly}
use Rattle.disk_files.proofs.Moments.{follows, goes_on}
use Rattle.file_pieces.specs.Adding.{IsLeftOf, Partly}
use Rattle.journal_files.specs.Pieces.{IsUnfinished, IsSealing, sealed}
use Rattle.journal_files.proofs.Steps.{either, one_call}

-- all of the bytes are some of them
pub partly_all : (name bytes : List ℕ) (before mid after : Disk) → Changes name (with_bytes bytes) before mid → SameDisk after mid → Partly name bytes before after
partly_all name bytes before mid after changes same = record {
  len = length bytes;
  grew = subst (λ (b : List ℕ). SameDisk after (with_file before name (option_map (with_bytes b) (before name)))) (sym (take_all (length bytes) bytes (omega arith))) (λ other. same other ∙ changes other);
}

-- ---- a new file

pub not_begun : (name bytes : List ℕ) (old mid : Disk) → SameDisk mid old ⊎ Makes name old mid → IsUnfinished name bytes old mid
not_begun name bytes old mid (inl same) = inl same
not_begun name bytes old mid (inr made) = inr (record { len = 0; new = record { none = made.0; made = made.1 } })

pub begun_so_far : (name bytes : List ℕ) (n : ℕ) (old mid new : Disk) → Makes name old mid → Changes name (with_bytes (take n bytes)) mid new → IsUnfinished name bytes old new
begun_so_far name bytes n old mid new made changes = inr (record { len = n; new = record { none = made.0; made = follows old mid new name (Some new_file) (with_bytes (take n bytes)) made.1 changes } })

-- the folder is one that a stop leaves now
pub left_now : (IsSo : Disk → Type 0) (h : History) → IsSo (now h) → (folder : Folder) → StopLeaves (now h) folder → IsLeftOf IsSo folder
left_now IsSo h so folder stays = record { disk = now h; so = so; stays = stays }

module _ (name bytes : List ℕ) (old mid : History) where
  abbrev Q : Disk → Type 0
  Q = IsUnfinished name bytes (now old)

  pub make_first : {T E : Type 0} (result : Result T E) → Elapses old mid → OnOk result (Makes name (now old) (now mid)) → OnErr result (SameDisk (now mid) (now old) ⊎ Makes name (now old) (now mid))
      → LeavesOnly old mid (IsLeftOf Q)
  make_first result time ok err =
      one_call old mid (IsLeftOf Q) time (left_now Q old (inl (λ other. refl)))
      (left_now Q mid (not_begun name bytes (now old) (now mid) (either result ok err (λ made. inr made) (λ some. some))))

-- ---- more bytes, and their sync

both : (bytes : List ℕ) (o : Option File) → option_map flushed (option_map (with_bytes bytes) o) ≡ option_map (sealed bytes) o
both bytes None = refl
both bytes (Some f) = refl

sealed_by : (name bytes : List ℕ) (old mid new : Disk) → Changes name (with_bytes bytes) old mid → Changes name flushed mid new → Changes name (sealed bytes) old new
sealed_by name bytes old mid new first second =
    subst (λ (o : Option File). SameDisk new (with_file old name o)) (both bytes (old name)) (follows old mid new name (option_map (with_bytes bytes) (old name)) flushed first second)

module _ (name bytes : List ℕ) (old mid : History) where
  abbrev R : Disk → Type 0
  R = IsSealing name bytes (now old)

  pub seal_first : {T E : Type 0} (result : Result T E) → Elapses old mid → OnOk result (Changes name (with_bytes bytes) (now old) (now mid))
      → OnErr result ((n : ℕ) × Changes name (with_bytes (take n bytes)) (now old) (now mid)) → LeavesOnly old mid (IsLeftOf R)
  seal_first result time ok err =
      one_call old mid (IsLeftOf R) time (left_now R old (inl (λ other. refl)))
      (left_now R mid (inr (inl (either result ok err (λ changes. partly_all name bytes (now old) (now mid) (now mid) changes (λ other. refl)) (λ some. record { len = some.0; grew = some.1 })))))

  pub seal_second : {T E : Type 0} (new : History) (result : Result T E) → LeavesOnly old mid (IsLeftOf R) → Elapses mid new → Changes name (with_bytes bytes) (now old) (now mid) → OnOk result (Changes name flushed (now mid) (now new))
      → OnErr result (SameDisk (now new) (now mid)) → LeavesOnly old new (IsLeftOf R)
  seal_second new result so_far time grew ok err =
      goes_on old mid new (IsLeftOf R) so_far time
      (left_now R new (inr (either result ok err (λ changes. inr (sealed_by name bytes (now old) (now mid) (now new) grew changes)) (λ same. inl (partly_all name bytes (now old) (now mid) (now new) grew same)))))
