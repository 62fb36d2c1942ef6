-- What a stop leaves where a sink's next file is made.
use Rattle.std.proofs.Common.{ℕ, zero, suc, ◌≡◌, ⊎_elim, inl, inr, ◌⊎◌, Bool, true, false, cond, List, [], length, take, Option, Some, None, refl, ap, sym, subst, ◌∙◌, arith}
use Rattle.std.specs.Str.{bytes_eq}
use Rattle.std.proofs.lemmas.List.{take_all}
use Rattle.disk_files.specs.Disk.{Disk, Folder, new_file, SameDisk, Makes, MayStay, StopLeaves}
use Rattle.disk_files.specs.Moments.{History, now, Elapses, LeavesOnly}
use Rattle.disk_files.proofs.Moments.{started, goes_on, rests, leaves_same}
use Rattle.disk_files.proofs.Table.{same_name}
use Rattle.sink_series.specs.Names.{sink_name}
use Rattle.sink_series.specs.Keeping.{IsSafe, FileBegins, HasMade}
use Rattle.sink_series.specs.Events.{Event}
use Rattle.sink_series.specs.Folders.{FileHolds, HoldsTo}
use Rattle.sink_series.proofs.Contents.{nothing, no_item}
use Rattle.sink_series.proofs.Stays.{begins_left}

made_same : (disk : Disk) (path : List ℕ) (folder : Folder) → StopLeaves disk folder → HasMade disk path folder
made_same disk path folder leaves = (folder, leaves, λ name. inl refl)

none_taken : (n : ℕ) (none : List ℕ) → none ≡ [] → take n none ≡ []
none_taken n none is = take_all n none (omega (arith, ap length is)) ∙ is

-- the folder without a file
without : List ℕ → Folder → Folder
without name folder q = cond (bytes_eq name q) None (folder q)

left_at : (disk new : Disk) (name : List ℕ) (folder : Folder) (q : List ℕ) (b : Bool) → bytes_eq name q ≡ b → disk name ≡ None → new q ≡ cond b (Some new_file) (disk q) → MayStay (new q) (folder q)
    → MayStay (disk q) (cond b None (folder q))
left_at disk new name folder q true same none is stays = subst (λ o. MayStay o None) (sym (sym (ap disk (same_name name q same)) ∙ none)) refl
left_at disk new name folder q false other none is stays = subst (λ o. MayStay o (folder q)) is stays

empty_left : (o : Option (List ℕ)) → MayStay (Some new_file) o → (o ≡ None) ⊎ (o ≡ Some [])
empty_left None stays = inl refl
empty_left (Some bytes) stays = inr (ap Some (sym stays.1 ∙ none_taken (length bytes) [] refl))

new_at : (new disk : Disk) (path : List ℕ) (n : ℕ) (folder : Folder) (q : List ℕ) (b : Bool) → bytes_eq (sink_name path n) q ≡ b → new q ≡ cond b (Some new_file) (disk q) → MayStay (new q) (folder q)
    → (folder q ≡ cond b None (folder q)) ⊎ (((m : ℕ) × (q ≡ sink_name path m)) × (cond b None (folder q) ≡ None) × (folder q ≡ Some []))
new_at new disk path n folder q true same is stays = ⊎_elim
    (λ none. inl none)
    (λ empty. inr ((n, sym (same_name (sink_name path n) q same)), refl, empty))
    (empty_left (folder q) (subst (λ o. MayStay o (folder q)) is stays))
new_at new disk path n folder q false other is stays = inl refl

made_new : (disk new : Disk) (path : List ℕ) (n : ℕ) → Makes (sink_name path n) disk new → (folder : Folder) → StopLeaves new folder → HasMade disk path folder
unfolding without
made_new disk new path n makes folder leaves = (
  without (sink_name path n) folder,
  λ q. left_at disk new (sink_name path n) folder q (bytes_eq (sink_name path n) q) refl makes.0 (makes.1 q) (leaves q),
  λ q. new_at new disk path n folder q (bytes_eq (sink_name path n) q) refl (makes.1 q) (leaves q),
)

-- before the file is made
pub before : (h : History) (path : List ℕ) → LeavesOnly h h (HasMade (now h) path)
before h path = started h (HasMade (now h) path) (made_same (now h) path)

pub still : (old mid new : History) (path : List ℕ) → LeavesOnly old mid (HasMade (now old) path) → Elapses mid new → SameDisk (now new) (now mid) → LeavesOnly old new (HasMade (now old) path)
still old mid new path = rests old mid new (HasMade (now old) path)

-- once it may be there
pub then_made : (old mid new : History) (path name : List ℕ) (n : ℕ) → name ≡ sink_name path n → LeavesOnly old mid (HasMade (now old) path) → SameDisk (now mid) (now old) → Elapses mid new
    → SameDisk (now new) (now mid) ⊎ Makes name (now mid) (now new) → LeavesOnly old new (HasMade (now old) path)
then_made old mid new path name n named so_far same time outcome = ⊎_elim
    (λ rest. still old mid new path so_far time rest)
    (λ makes.
    goes_on old mid new (HasMade (now old) path) so_far time
    (λ folder leaves.
    let m = made_new (now mid) (now new) path n (subst (λ (x : List ℕ). Makes x (now mid) (now new)) named makes) folder leaves in
    (m.0, leaves_same (now mid) (now old) m.0 same m.1, m.2)))
    outcome

-- ---- what it holds

file_left : (o p : Option (List ℕ)) (Named : Type 0) (events : List Event) → (o ≡ p) ⊎ (Named × (p ≡ None) × (o ≡ Some [])) → FileHolds o events → FileHolds p events
file_left o p Named events (inl same) held = subst (λ x. FileHolds x events) same held
file_left o p Named events (inr new) held =
    subst (λ x. FileHolds x events) (sym new.1) (nothing [] events no_item (subst (λ x. FileHolds x events) new.2 held))

to_left : (n : ℕ) (path : List ℕ) (folder left : Folder) (all : List Event)
    → ((name : List ℕ) → (folder name ≡ left name) ⊎ (((m : ℕ) × (name ≡ sink_name path m)) × (left name ≡ None) × (folder name ≡ Some []))) → HoldsTo path folder n all → HoldsTo path left n all
unfolding HoldsTo
to_left zero path folder left all same held = held
to_left (suc n) path folder left all same held =
    (held.0, held.1, to_left n path folder left held.0 same held.2, file_left _ _ _ held.1 (same (sink_name path (suc n))) held.3, held.4)

pub made_content : (n : ℕ) (disk : Disk) (path : List ℕ) (folder : Folder) (all : List Event) → HasMade disk path folder → HoldsTo path folder n all
    → (left : Folder) × StopLeaves disk left × HoldsTo path left n all
made_content n disk path folder all made held = (made.0, made.1, to_left n path folder made.0 all made.2 held)

pub made_safe : (disk : Disk) (path name : List ℕ) (folder : Folder) (events : List Event) → HasMade disk path folder → IsSafe disk name events → FileBegins folder name events
made_safe disk path name folder events made safe =
    let begins = begins_left name events disk made.0 safe made.1 in
    ⊎_elim (λ same. (begins.0, same ∙ begins.1, begins.2)) (λ new. absurd (cc (new.1, begins.1))) (made.2 name)
