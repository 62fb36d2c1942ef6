-- How what a stop leaves goes on over calls. These serve the crates above: a function owes one
-- `goes_on` for each call.
use Rattle.std.proofs.Common.{◌≡◌, ⊎_elim, ℕ, List, Option, option_map, refl, sym, ◌∙◌, ap, subst, arith, cond, false}
use Rattle.std.specs.Str.{bytes_eq}
use Rattle.std.proofs.lemmas.Map.{update_same, update_other, update-update}
use Rattle.std.proofs.lemmas.Bool.{cases_lt}
use Rattle.disk_files.specs.Disk.{File, Disk, Folder, with_file, SameDisk, Changes, MayStay, StopLeaves}
use Rattle.disk_files.specs.Moments.{History, now, Elapses, Passes, LeavesOnly}
use Rattle.disk_files.proofs.Table.{itself}

-- What a stop leaves depends on the files alone

pub leaves_same : (a b : Disk) (folder : Folder) → SameDisk a b → StopLeaves a folder → StopLeaves b folder
leaves_same a b folder same left name = subst (λ f. MayStay f (folder name)) (same name) (left name)

pub same_sym : (a b : Disk) → SameDisk a b → SameDisk b a
same_sym a b same name = sym (same name)

-- Moments

-- before the first call
pub started : (old : History) (P : Folder → Type 0) → ((folder : Folder) → StopLeaves (now old) folder → P folder) → LeavesOnly old old P
started old P here = record {
  later = omega arith;
  past = λ t le name. refl;
  each = λ t above below folder left. here folder (subst (λ (u : ℕ). StopLeaves (old.disk_at u) folder) (omega (arith, above, below)) left);
}

-- one call more, after which a stop leaves what has P
pub goes_on : (old mid new : History) (P : Folder → Type 0) → LeavesOnly old mid P → Elapses mid new
    → ((folder : Folder) → StopLeaves (now new) folder → P folder) → LeavesOnly old new P
goes_on old mid new P so_far time here = record {
  later = omega (arith, so_far.later, time.later);
  past = λ t le name. time.past t (omega (arith, le, so_far.later)) name ∙ so_far.past t le name;
  each = λ t above below folder left. ⊎_elim
      (λ after. here folder (leaves_same _ _ folder (time.since t after below) left))
      (λ before. so_far.each t above before folder (leaves_same _ _ folder (time.past t before) left))
      (cases_lt mid.moment t);
}

-- one call more that leaves the disk as it was
pub rests : (old mid new : History) (P : Folder → Type 0) → LeavesOnly old mid P → Elapses mid new → SameDisk (now new) (now mid) → LeavesOnly old new P
rests old mid new P so_far time same =
    goes_on old mid new P so_far time
    (λ folder left. so_far.each mid.moment so_far.later (omega arith) folder (leaves_same (now new) (now mid) folder same left))

-- a call that leaves the disk as it was has it so at each moment
pub passes_same : (old new : History) → Elapses old new → SameDisk (now new) (now old) → Passes old new (SameDisk (now old))
passes_same old new time same = record {
  later = time.later;
  past = time.past;
  each = λ t above below name. ⊎_elim
      (λ after. sym (same name) ∙ sym (time.since t after below name))
      (λ before. let at : t ≡ old.moment = omega (arith, above, before) in sym (time.past t before name ∙ ap (λ u. old.disk_at u name) at))
      (cases_lt old.moment t);
}

-- two stretches of time, one after the other
pub joined : (old mid new : History) (P : Folder → Type 0) → LeavesOnly old mid P → LeavesOnly mid new P → LeavesOnly old new P
joined old mid new P first second = record {
  later = omega (arith, first.later, second.later);
  past = λ t le name. second.past t (omega (arith, le, first.later)) name ∙ first.past t le name;
  each = λ t above below folder left. ⊎_elim
      (λ after. second.each t (omega (arith, after)) below folder left)
      (λ before. first.each t above before folder (leaves_same _ _ folder (second.past t before) left))
      (cases_lt mid.moment t);
}

-- what is weaker holds at each moment too
pub weaker : (old new : History) (P Q : Folder → Type 0) → ((folder : Folder) → P folder → Q folder) → LeavesOnly old new P → LeavesOnly old new Q
weaker old new P Q less so_far = record { later = so_far.later; past = so_far.past; each = λ t above below folder left. less folder (so_far.each t above below folder left) }

-- One file, changed again and again

-- the disk has this file
pub here : (disk a : Disk) (name : List ℕ) (s : Option File) → SameDisk a (with_file disk name s) → a name ≡ s
here disk a name s first = first name ∙ update_same bytes_eq disk name s name (itself name)

-- the disk has every other file that it had
pub elsewhere : (disk a : Disk) (name other : List ℕ) (s : Option File) → SameDisk a (with_file disk name s) → bytes_eq name other ≡ false → a other ≡ disk other
elsewhere disk a name other s first apart = first other ∙ update_other bytes_eq disk name s other apart

pub again : (disk a b : Disk) (name : List ℕ) (s u : Option File) → SameDisk a (with_file disk name s) → SameDisk b (with_file a name u) → SameDisk b (with_file disk name u)
again disk a b name s u first second q =
    second q ∙ ap (cond (bytes_eq name q) u) (first q) ∙ update-update bytes_eq disk name s u q

-- a change of it
pub follows : (disk a b : Disk) (name : List ℕ) (s : Option File) (how : File → File) → SameDisk a (with_file disk name s) → Changes name how a b → SameDisk b (with_file disk name (option_map how s))
follows disk a b name s how first second =
    again disk a b name s (option_map how s) first (subst (λ o. SameDisk b (with_file a name (option_map how o))) (here disk a name s first) second)
