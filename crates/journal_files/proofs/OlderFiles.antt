-- The generations below a new one: they are opened, and removed one after another.
use Rattle.std.proofs.Common.{◌≡◌, ◌⊎◌, ⊎_elim, ℕ, ◌<◌, ◌≤◌, ◌^◌, Bool, true, false, cond, List, Option, Some, None, Result, OnOk, OnErr, refl, sym, ap, subst, ◌∙◌, arith, inl, inr}
use Rattle.std.specs.Prelude.{IsSome, IsTrue}
use Rattle.std.specs.Ordering.{nat_cmp}
use Rattle.std.specs.BTreeMap.{BTreeMap, get, is_at, btree_map_len}
use Rattle.std.specs.Map.{lookup}
use Rattle.std.proofs.lemmas.List.{nil_from_length}
use Rattle.std.specs.BTreeSet.{BTreeSet, contains}
use Rattle.std.proofs.lemmas.Option.{same_Some}
use Rattle.disk_files.specs.Disk.{Disk, SameDisk, Changes, unlinked, read_of}
use Rattle.disk_files.specs.Moments.{History, now, Elapses, LeavesOnly}
use Rattle.disk_files.specs.declared.dir.FileNo.{FileNo}
use Rattle.disk_files.proofs.Moments.{elsewhere, goes_on, started}
use Rattle.buffer_state.proofs.Serials.{at_itself}
use Rattle.journal_files.specs.Folders.{journal_name}
use Rattle.file_pieces.specs.Adding.{IsLeftOf}
use Rattle.journal_files.specs.Pieces.{AreOlder, ChangesBelow, IsAbove, IsGoneBut}
use Rattle.journal_files.proofs.Names.{same_number, apart, numbers_apart}
use Rattle.journal_files.proofs.Renewing.{is_some_name, removed_gone}
use Rattle.buffer_state.proofs.Serials.{at_same}
use Rattle.journal_files.proofs.Steps.{either}
use Rattle.journal_files.proofs.Searched.{zero_len}
use Rattle.journal_files.proofs.Strays.{not_some}

-- ---- they are opened

-- The disk stays, nothing was refused, and each generation below is still to be looked at, or is
-- open, or isn't there.
pub record Collects {D : Type 0} (honest : D → Type 0) (history : D → History) (opened : D → FileNo → Option (List ℕ)) (faults : D → ℕ) (path : List ℕ) (number : ℕ) (rest : BTreeSet ℕ) (files : BTreeMap ℕ FileNo)
    (first dir : D) : Type 0 where
  pub is_honest : honest first → honest dir
  pub time : honest first → Elapses (history first) (history dir)
  pub same : honest first → SameDisk (now (history dir)) (now (history first))
  pub stays_open : (other : FileNo) → IsSome (opened first other) → opened dir other ≡ opened first other
  pub older : AreOlder path number (opened dir) files
  pub all : honest first → (n : ℕ) → 1 ≤ n → n < number → IsTrue (contains nat_cmp rest n) ⊎ IsGoneBut path files (now (history first)) n
  pub quiet : faults dir ≡ faults first

-- they stay open over a call that leaves open files alone
pub still_older : (path : List ℕ) (number : ℕ) (before after : FileNo → Option (List ℕ)) (files : BTreeMap ℕ FileNo) → AreOlder path number before files → ((other : FileNo) → IsSome (before other) → after other ≡ before other)
    → AreOlder path number after files
still_older path number before after files older others = record {
  below = older.below;
  named = λ n file is. (let there = older.named n file is in others file (is_some_name _ _ there) ∙ there);
}

-- ---- they are removed

-- Only generations below changed, nothing was refused, and each that was to be removed still is, or
-- is gone.
pub record Removes {D : Type 0} (honest : D → Type 0) (history : D → History) (opened : D → FileNo → Option (List ℕ)) (faults : D → ℕ) (path : List ℕ) (number : ℕ) (all files : BTreeMap ℕ FileNo) (first dir : D) : Type 0 where
  pub is_honest : honest first → honest dir
  pub so_far : honest first → LeavesOnly (history first) (history dir) (IsLeftOf (ChangesBelow path number (now (history first))))
  pub elsewhere : honest first → ChangesBelow path number (now (history first)) (now (history dir))
  pub kept : (other : FileNo) (name : List ℕ) → IsAbove path number name → opened first other ≡ Some name → opened dir other ≡ Some name
  pub older : AreOlder path number (opened dir) files
  pub gone : honest first → (n : ℕ) → n < 2 ^ 32 → IsGoneBut path all (now (history first)) n → IsGoneBut path files (now (history dir)) n
  pub quiet : faults dir ≡ faults first

pub nothing_removed : {D : Type 0} (honest : D → Type 0) (history : D → History) (opened : D → FileNo → Option (List ℕ)) (faults : D → ℕ) (path : List ℕ) (number : ℕ) (files : BTreeMap ℕ FileNo) (dir : D)
    → AreOlder path number (opened dir) files → Removes honest history opened faults path number files files dir dir
nothing_removed honest history opened faults path number files dir older = record {
  is_honest = λ h. h;
  so_far = λ h. started (history dir) _ (λ folder left. record { disk = now (history dir); so = λ name above. refl; stays = left });
  elsewhere = λ h name above. refl;
  kept = λ other name above is. is;
  older = older;
  gone = λ h n below is. is;
  quiet = refl;
}

-- one of them is removed
module _ (path : List ℕ) (number k : ℕ) (file : FileNo) (opened : FileNo → Option (List ℕ)) (files rest : BTreeMap ℕ FileNo) (last : number < 2 ^ 32) (older : AreOlder path number opened files)
    (value : get nat_cmp files k ≡ Some file) (updates : (q : ℕ) → get nat_cmp rest q ≡ cond (is_at (nat_cmp k) q) None (get nat_cmp files q)) where
  lt : k < number
  lt = older.below k (is_some_name _ _ value)

  pub named : opened file ≡ Some (journal_name path k)
  named = older.named k file value

  differs : (n : ℕ) → is_at (nat_cmp k) n ≡ false → k ≡ n → ⊥
  differs n at same = let itself = at_itself k in let other = subst (λ (m : ℕ). is_at (nat_cmp k) m ≡ false) (sym same) at in cc (itself, other)

  pub below_only : (old new : Disk) → SameDisk new old ⊎ Changes (journal_name path k) unlinked old new → ChangesBelow path number old new
  below_only old new (inl same) name above = same name
  below_only old new (inr changes) name above = elsewhere old new (journal_name path k) name _ changes (apart (journal_name path k) name (λ e. above k lt (sym e)))

  module _ (after : FileNo → Option (List ℕ)) (others : (other : FileNo) → (other ≡ file → ⊥) → after other ≡ opened other) where
    below_by : (b : Bool) (n : ℕ) → get nat_cmp rest n ≡ cond b None (get nat_cmp files n) → IsSome (get nat_cmp rest n) → n < number
    below_by true n is some = absurd (not_some (get nat_cmp rest n) is some)
    below_by false n is some = older.below n (subst IsSome is some)

    named_by : (b : Bool) (n : ℕ) (g : FileNo) → is_at (nat_cmp k) n ≡ b → get nat_cmp rest n ≡ cond b None (get nat_cmp files n) → get nat_cmp rest n ≡ Some g → after g ≡ Some (journal_name path n)
    named_by true n g at is there = absurd (cc (is, there))
    named_by false n g at is there =
        let here = older.named n g (sym is ∙ there) in
        others g (λ same. differs n at (same_number path k n (omega (arith, lt, last)) (omega (arith, last, older.below n (is_some_name _ _ (sym is ∙ there)))) (same_Some _ _ (sym named ∙ ap opened (sym same) ∙ here)))) ∙ here

    pub older_next : AreOlder path number after rest
    older_next = record {
      below = λ n some. below_by (is_at (nat_cmp k) n) n (updates n) some;
      named = λ n g is. named_by (is_at (nat_cmp k) n) n g refl (updates n) is;
    }

    pub kept_next : (other : FileNo) (name : List ℕ) → IsAbove path number name → opened other ≡ Some name → after other ≡ Some name
    kept_next other name above is = others other (λ same. above k lt (same_Some _ _ (sym is ∙ ap opened same ∙ named))) ∙ is

  gone_by : (b : Bool) (n : ℕ) (old new : Disk) → n < 2 ^ 32 → Changes (journal_name path k) unlinked old new → is_at (nat_cmp k) n ≡ b → get nat_cmp rest n ≡ cond b None (get nat_cmp files n)
      → IsGoneBut path files old n → IsGoneBut path rest new n
  gone_by true n old new below changes at is gone = inl (subst (λ (m : ℕ). read_of (new (journal_name path m)) ≡ None) (at_same k n at) (removed_gone (journal_name path k) old new changes))
  gone_by false n old new below changes at is gone =
      ⊎_elim
      (λ none. inl (ap read_of (elsewhere old new (journal_name path k) (journal_name path n) _ changes (numbers_apart path k n (omega (arith, lt, last)) below (differs n at))) ∙ none))
      (λ some. inr (subst IsSome (sym is) some)) gone

  pub gone_next : (old new : Disk) → Changes (journal_name path k) unlinked old new → (n : ℕ) → n < 2 ^ 32 → IsGoneBut path files old n → IsGoneBut path rest new n
  gone_next old new changes n below gone = gone_by (is_at (nat_cmp k) n) n old new below changes refl (updates n) gone

  pub removes_on : {T E : Type 0} (first old new : History) (result : Result T E) → LeavesOnly first old (IsLeftOf (ChangesBelow path number (now first))) → ChangesBelow path number (now first) (now old) → Elapses old new
      → OnOk result (Changes (journal_name path k) unlinked (now old) (now new)) → OnErr result (SameDisk (now new) (now old) ⊎ Changes (journal_name path k) unlinked (now old) (now new))
      → LeavesOnly first new (IsLeftOf (ChangesBelow path number (now first)))
  removes_on first old new result so_far before time ok err =
      let how = below_only (now old) (now new) (either result ok err (λ changes. inr changes) (λ some. some)) in
      goes_on first old new (IsLeftOf (ChangesBelow path number (now first))) so_far time
      (λ folder left. record { disk = now new; so = λ name above. how name above ∙ before name above; stays = left })

pub none_left : (files : BTreeMap ℕ FileNo) → (0 < btree_map_len files → false ≡ true) → (n : ℕ) → get nat_cmp files n ≡ None
none_left files none n = ap (lookup (is_at (nat_cmp n))) (nil_from_length files.entries (zero_len (btree_map_len files) none))

-- all of them were
pub all_gone : (path : List ℕ) (n : ℕ) (files : BTreeMap ℕ FileNo) (disk : Disk) → get nat_cmp files n ≡ None → IsGoneBut path files disk n → read_of (disk (journal_name path n)) ≡ None
all_gone path n files disk none gone = ⊎_elim (λ is. is) (λ some. absurd (not_some (get nat_cmp files n) none some)) gone
