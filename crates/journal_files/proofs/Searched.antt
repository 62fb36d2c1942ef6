-- The generations of a folder are looked at from the greatest down.
use Rattle.std.proofs.Common.{◌≡◌, ◌⊎◌, ⊎_elim, ℕ, zero, suc, ◌<◌, ◌≤◌, ◌^◌, Bool, true, false, cond, List, Option, Some, None, refl, sym, ap, subst, ◌∙◌, arith, inl, inr}
use Rattle.std.specs.Prelude.{IsTrue, IsSome, ◌↔◌}
use Rattle.std.specs.Ordering.{nat_cmp, is_lt}
use Rattle.std.specs.declared.cmp.Ordering.TheVariants.{Less}
use Rattle.std.specs.Cmp.{nat_cmp_is}
use Rattle.std.specs.BTreeMap.{is_at}
use Rattle.std.specs.BTreeSet.{BTreeSet, contains, btree_set_len}
use Rattle.std.specs.List.{list_any}
use Rattle.std.proofs.lemmas.List.{nil_from_length}
use Rattle.disk_files.specs.Disk.{Folder, SameDisk, reads}
use Rattle.disk_files.specs.Moments.{History, Elapses, now}
use Rattle.buffer_state.specs.State.{State, empty}
use Rattle.buffer_state.proofs.Serials.{at_same}
use Rattle.chunk_journal.specs.Meaning.{EndsUnsealed, IsDamaged}
use Rattle.chunk_journal.specs.Places.{Spots}
use Rattle.journal_files.specs.Folders.{journal_name, IsPassedOver, PassesAbove, IsHighest, Opens, IsDamagedFolder}
use Rattle.journal_files.specs.Found.{IsFound, IsMeant, IsSo}
use Rattle.journal_files.proofs.Cuts.{sealed_of}

-- each generation is still to be looked at, or is passed over
pub record IsLeft (path : List ℕ) (folder : Folder) (rest : BTreeSet ℕ) : Type 0 where
  pub or_passed : (n : ℕ) → 1 ≤ n → n < 2 ^ 32 → IsTrue (contains nat_cmp rest n) ⊎ IsPassedOver (folder (journal_name path n))
  pub from_one : (n : ℕ) → IsTrue (contains nat_cmp rest n) → 1 ≤ n

-- the disk stays, and nothing was refused
pub record Searches {D : Type 0} (honest : D → Type 0) (history : D → History) (faults : D → ℕ) (path : List ℕ) (rest : BTreeSet ℕ) (first dir : D) : Type 0 where
  pub is_honest : honest first → honest dir
  pub time : honest first → Elapses (history first) (history dir)
  pub same : honest first → SameDisk (now (history dir)) (now (history first))
  pub quiet : faults dir ≡ faults first
  pub left : honest first → IsLeft path (reads (now (history first))) rest

-- ---- at first all that are there

there_or_not : (o : Option (List ℕ)) (In : Type 0) → (IsSome o → In) → In ⊎ IsPassedOver o
there_or_not None In there = inr tt
there_or_not (Some bytes) In there = inl (there refl)

pub left_first : (path : List ℕ) (folder : Folder) (rest : BTreeSet ℕ) → ((n : ℕ) → IsTrue (contains nat_cmp rest n) ↔ ((1 ≤ n) × (n < 2 ^ 32) × IsSome (folder (journal_name path n)))) → IsLeft path folder rest
left_first path folder rest there = record {
  or_passed = λ n from below. there_or_not (folder (journal_name path n)) _ (λ some. (there n).1 (from, below, some));
  from_one = λ n in_rest. ((there n).0 in_rest).0;
}

-- ---- the greatest of those that are left

pub record IsTaken (k : ℕ) (old new : BTreeSet ℕ) : Type 0 where
  pub member : IsTrue (contains nat_cmp old k)
  pub greatest : (q : ℕ) → IsTrue (contains nat_cmp old q) → is_lt (nat_cmp k q) ≡ false
  pub others : (q : ℕ) → contains nat_cmp new q ≡ cond (is_at (nat_cmp k) q) false (contains nat_cmp old q)

not_above : (k q : ℕ) → is_lt (nat_cmp k q) ≡ false → k < q → ⊥
not_above k q not lt = let less : is_lt (nat_cmp k q) ≡ true = ap is_lt (sym (nat_cmp_is k q Less lt)) in cc (not, less)

was : (b old new : Bool) → new ≡ cond b false old → new ≡ true → old ≡ true
was true old new is t = absurd (cc (is, t))
was false old new is t = sym is ∙ t

module _ (path : List ℕ) (folder : Folder) (k : ℕ) (old new : BTreeSet ℕ) (below : k < 2 ^ 32) (left : IsLeft path folder old) (taken : IsTaken k old new) where
  pub above_it : PassesAbove path folder k
  above_it n above within =
      ⊎_elim (λ in_old. absurd (not_above k n (taken.greatest n in_old) above)) (λ passed. passed) (left.or_passed n (omega (arith, above)) within)

  pub highest : (bytes : List ℕ) → folder (journal_name path k) ≡ Some bytes → IsHighest path folder k bytes
  highest bytes there = record { first = left.from_one k taken.member; last = below; there = there; above = above_it }

  pub opens_it : (state : State) (spots : Spots) → IsMeant (folder (journal_name path k)) state spots → Opens path folder state
  opens_it state spots m = inl (record { number = k; first = left.from_one k taken.member; last = below; bytes = m.bytes; there = m.there; above = above_it; means = sealed_of m.bytes state m.used m.means.replayed })

  pub damaged_it : IsSo (folder (journal_name path k)) IsDamaged → IsDamagedFolder path folder
  damaged_it d = record { number = k; bytes = d.bytes; highest = highest d.bytes d.there; damaged = d.so }

  still : (b : Bool) (n : ℕ) → is_at (nat_cmp k) n ≡ b → contains nat_cmp new n ≡ cond b false (contains nat_cmp old n) → IsSo (folder (journal_name path k)) EndsUnsealed → (k ≡ n → IsPassedOver (folder (journal_name path n)))
      → IsTrue (contains nat_cmp old n) → IsTrue (contains nat_cmp new n) ⊎ IsPassedOver (folder (journal_name path n))
  still true n at is so passed in_old = inr (passed (at_same k n at))
  still false n at is so passed in_old = inl (is ∙ in_old)

  pub left_next : IsSo (folder (journal_name path k)) EndsUnsealed → IsLeft path folder new
  left_next so = record {
    or_passed = λ n from within. ⊎_elim
        (still (is_at (nat_cmp k) n) n refl (taken.others n) so (λ e. subst (λ (m : ℕ). IsPassedOver (folder (journal_name path m))) e (subst IsPassedOver (sym so.there) so.so)))
        (λ passed. inr passed) (left.or_passed n from within);
    from_one = λ n in_new. left.from_one n (was (is_at (nat_cmp k) n) (contains nat_cmp old n) (contains nat_cmp new n) (taken.others n) in_new);
  }

-- ---- none is left

pub opens_none : (path : List ℕ) (folder : Folder) (rest : BTreeSet ℕ) (state : State) → IsLeft path folder rest → ((n : ℕ) → contains nat_cmp rest n ≡ false) → state ≡ empty → Opens path folder state
opens_none path folder rest state left none is =
    inr (is, λ n above below. ⊎_elim (λ in_rest. absurd (let gone = none n in cc (gone, in_rest))) (λ passed. passed) (left.or_passed n (omega (arith, above)) below))

-- ---- the greatest number

none_there : (o : Option (List ℕ)) → (IsSome o → ⊥) → o ≡ None
none_there None no_some = refl
none_there (Some bytes) no_some = absurd (no_some refl)

pub found_so : (path : List ℕ) (folder : Folder) (all : BTreeSet ℕ) (greatest : ℕ) → ((n : ℕ) → IsTrue (contains nat_cmp all n) ↔ ((1 ≤ n) × (n < 2 ^ 32) × IsSome (folder (journal_name path n))))
    → (greatest ≡ 0) ⊎ IsTrue (contains nat_cmp all greatest) → ((n : ℕ) → greatest < n → contains nat_cmp all n ≡ false) → IsFound path folder greatest
found_so path folder all greatest there at above = record {
  there = ⊎_elim (λ zero_is. inl zero_is) (λ in_all. inr ((there greatest).0 in_all).2) at;
  above = λ n over below. none_there (folder (journal_name path n)) (λ some. let gone = above n over in let here = (there n).1 (omega (arith, over), below, some) in cc (gone, here));
}

-- ---- the greatest number of all

pub last_there : (path : List ℕ) (folder : Folder) (greatest : ℕ) → IsFound path folder greatest → greatest ≡ 4294967295 → IsSome (folder (journal_name path 4294967295))
last_there path folder greatest found is =
    ⊎_elim (λ zero_is. absurd (omega (arith, zero_is, is))) (λ some. subst (λ (n : ℕ). IsSome (folder (journal_name path n))) is some) found.there

pub below_last : (k n : ℕ) → k ≡ n → n < 2 ^ 32 → (n ≡ 4294967295 → ⊥) → k < 4294967295
below_last k n is fits other = omega (arith, is, fits, other)

-- none is left where it has no length
pub zero_len : (n : ℕ) → (0 < n → false ≡ true) → n ≡ 0
zero_len zero none = refl
zero_len (suc n) none = absurd (let e = none (omega arith) in cc e)

pub none_in : (rest : BTreeSet ℕ) → (0 < btree_set_len rest → false ≡ true) → (n : ℕ) → contains nat_cmp rest n ≡ false
none_in rest none n = ap (list_any (is_at (nat_cmp n))) (nil_from_length rest.keys (zero_len (btree_set_len rest) none))

pub not_both : (b : Bool) → b ≡ false → b ≡ true → ⊥
not_both b one other = cc (one, other)
