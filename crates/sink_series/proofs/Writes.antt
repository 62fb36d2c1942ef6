-- What a write to a file keeps safe, and what a stop leaves of it.
use Rattle.std.proofs.Common.{ℕ, ◌≡◌, ◌≢◌, ◌-◌, ◌≤◌, ◌⊎◌, ⊎_elim, inl, inr, Result, Ok, Err, Bool, true, false, cond, List, [], ◌∷◌, ◌++◌, length, take, drop, Option, Some, None, option_map, refl, ap, sym, subst, ◌∙◌, arith, append_assoc, length-take}
use Rattle.std.specs.Prelude.{OnOk, OnErr, IsSome}
use Rattle.std.specs.Str.{bytes_eq}
use Rattle.std.specs.List.{AllByRecursion}
use Rattle.std.proofs.lemmas.List.{append-nil, take_all, take-append-drop, take-append-le, length-append}
use Rattle.std.proofs.lemmas.Grind.{flat_map-append}
use Rattle.disk_files.specs.Disk.{File, Disk, Folder, new_file, Makes, with_bytes, flushed, kept_file, SameDisk, Changes, MayStay, StopLeaves}
use Rattle.disk_files.specs.Moments.{History, now, Elapses, LeavesOnly}
use Rattle.disk_files.proofs.Moments.{started, goes_on, rests, joined, here, elsewhere, follows}
use Rattle.disk_files.proofs.Table.{same_name}
use Rattle.std.proofs.Math.Seq.{take-append-add}
use Rattle.std.proofs.lemmas.Bool.{cases_lt}
use Rattle.sink_series.specs.Events.{Event, IsEvent, item_of, run_of, under, written_by, Holds}
use Rattle.sink_series.specs.Views.{StoredView}
use Rattle.sink_series.specs.Keeping.{file_with, IsSafe, StaysSafe, OthersStay, IsSound, IsBeginning}
use Rattle.sink_series.proofs.Contents.{after, cuts_whole, whole_run}

-- ---- lists and disks

all_both : (xs ys : List Event) → AllByRecursion IsEvent xs → AllByRecursion IsEvent ys → AllByRecursion IsEvent (xs ++ ys)
all_both [] ys p q = q
all_both (x ∷ xs) ys p q = (p.0, all_both xs ys p.1 q)

or_nil : Option (List ℕ) → List ℕ
or_nil None = []
or_nil (Some xs) = xs

some_same : (a b : List ℕ) → Some a ≡ Some b → a ≡ b
unfolding or_nil
some_same a b e = ap or_nil e

own_changed : (disk new : Disk) (name : List ℕ) (file : File) (how : File → File) → Changes name how disk new → disk name ≡ Some file → new name ≡ Some (how file)
own_changed disk new name file how changes found = here disk new name (option_map how (disk name)) changes ∙ ap (option_map how) found

-- ---- what is safe stays safe

-- what is safe in a file
record Sure (events : List Event) (file : File) : Type 0 where
  durable : file.is_durable ≡ true
  there : file.is_removed ≡ false
  more : List ℕ
  synced : take file.synced file.written ≡ run_of events ++ more

-- a longer list has a longer front
front_longer : (n : ℕ) (w x : List ℕ) → (tail : List ℕ) × (take n (w ++ x) ≡ take n w ++ tail)
front_longer n w x = ⊎_elim
    (λ past.
    let all : take n w ≡ w = take_all n w (omega (arith, past)) in
    (take (n - length w) x, ap (λ (k : ℕ). take k (w ++ x)) (omega (arith, past)) ∙ take-append-add w x (n - length w) ∙ ap (λ (z : List ℕ). z ++ take (n - length w) x) (sym all)))
    (λ within. ([], take-append-le n w x within ∙ sym (append-nil (take n w))))
    (cases_lt (length w) n)

sure_grown : (events : List Event) (bytes : List ℕ) (f : File) → Sure events f → Sure events (with_bytes bytes f)
sure_grown events bytes f s =
    let l = front_longer f.synced f.written bytes in
    record { durable = s.durable; there = s.there; more = s.more ++ l.0; synced = l.1 ∙ ap (λ (z : List ℕ). z ++ l.0) s.synced ∙ append_assoc (run_of events) s.more l.0 }

sure_flushed : (events : List Event) (f : File) → Sure events f → Sure events (flushed f)
sure_flushed events f s = record {
  durable = refl;
  there = s.there;
  more = s.more ++ drop f.synced f.written;
  synced = take_all (length f.written) f.written (omega arith) ∙ sym (take-append-drop f.synced f.written)
      ∙ ap (λ (z : List ℕ). z ++ drop f.synced f.written) s.synced ∙ append_assoc (run_of events) s.more (drop f.synced f.written);
}

safe_of : (disk : Disk) (name : List ℕ) (events : List Event) (file : File) → AllByRecursion IsEvent events → disk name ≡ Some file → Sure events file → IsSafe disk name events
safe_of disk name events file each found s =
    record { file = file; found = found; durable = s.durable; there = s.there; each = each; more = s.more; synced = s.synced }

sure_of : (disk : Disk) (name : List ℕ) (events : List Event) → (safe : IsSafe disk name events) → Sure events safe.file
sure_of disk name events safe = record { durable = safe.durable; there = safe.there; more = safe.more; synced = safe.synced }

changed_at : (disk new : Disk) (own name : List ℕ) (how : File → File) (events : List Event) → ((f : File) → Sure events f → Sure events (how f)) → (safe : IsSafe disk name events)
    → (b : Bool) → bytes_eq own name ≡ b → new name ≡ cond b (option_map how (disk own)) (disk name) → IsSafe new name events
changed_at disk new own name how events keeps safe true same changed =
    let own_is : disk own ≡ Some safe.file = ap disk (same_name own name same) ∙ safe.found in
    safe_of new name events (how safe.file) safe.each (changed ∙ ap (option_map how) own_is) (keeps safe.file (sure_of disk name events safe))
changed_at disk new own name how events keeps safe false other changed = safe_of new name events safe.file safe.each (changed ∙ safe.found) (sure_of disk name events safe)

safe_changed : (disk new : Disk) (own name : List ℕ) (how : File → File) (events : List Event) → ((f : File) → Sure events f → Sure events (how f)) → Changes own how disk new
    → IsSafe disk name events → IsSafe new name events
safe_changed disk new own name how events keeps changes safe = changed_at disk new own name how events keeps safe (bytes_eq own name) refl (changes name)

pub safe_same : (disk new : Disk) (name : List ℕ) (events : List Event) → SameDisk new disk → IsSafe disk name events → IsSafe new name events
safe_same disk new name events same safe = safe_of new name events safe.file safe.each (same name ∙ safe.found) (sure_of disk name events safe)

pub safe_grown : (disk new : Disk) (own name bytes : List ℕ) (events : List Event) → Changes own (with_bytes bytes) disk new → IsSafe disk name events → IsSafe new name events
safe_grown disk new own name bytes events = safe_changed disk new own name (with_bytes bytes) events (sure_grown events bytes)

pub safe_flushed : (disk new : Disk) (own name : List ℕ) (events : List Event) → Changes own flushed disk new → IsSafe disk name events → IsSafe new name events
safe_flushed disk new own name events = safe_changed disk new own name flushed events (sure_flushed events)

-- what is safe at a moment, and at the next
pub safe_here : (h : History) (name : List ℕ) (events : List Event) → IsSafe (now h) name events → StaysSafe h h name events
safe_here h name events safe = record {
  later = omega arith;
  past = λ t le q. refl;
  each = λ t above below. subst (λ (u : ℕ). IsSafe (h.disk_at u) name events) (omega (arith, above, below)) safe;
}

pub safe_on : (old mid new : History) (name : List ℕ) (events : List Event) → StaysSafe old mid name events → Elapses mid new → IsSafe (now new) name events → StaysSafe old new name events
safe_on old mid new name events so_far time safe = record {
  later = omega (arith, so_far.later, time.later);
  past = λ t le q. time.past t (omega (arith, le, so_far.later)) q ∙ so_far.past t le q;
  each = λ t above below. ⊎_elim
      (λ after. safe_same (now new) (new.disk_at t) name events (time.since t after below) safe)
      (λ before. safe_same (mid.disk_at t) (new.disk_at t) name events (time.past t before) (so_far.each t above before))
      (cases_lt mid.moment t);
}

pub safe_joined : (old mid new : History) (name : List ℕ) (events : List Event) → StaysSafe old mid name events → StaysSafe mid new name events → StaysSafe old new name events
safe_joined old mid new name events first second = record {
  later = omega (arith, first.later, second.later);
  past = λ t le q. second.past t (omega (arith, le, first.later)) q ∙ first.past t le q;
  each = λ t above below. ⊎_elim
      (λ after. second.each t (omega (arith, after)) below)
      (λ before. safe_same (mid.disk_at t) (new.disk_at t) name events (second.past t before) (first.each t above before))
      (cases_lt mid.moment t);
}

-- it is safe now
pub safe_now : (old new : History) (name : List ℕ) (events : List Event) → StaysSafe old new name events → IsSafe (now new) name events
safe_now old new name events so_far = so_far.each new.moment so_far.later (omega arith)

-- the other files, at a moment and at the next
pub others_here : (h : History) (own : List ℕ) → OthersStay h h own
others_here h own = record {
  later = omega arith;
  past = λ t le q. refl;
  each = λ t above below name other. ap (λ (u : ℕ). h.disk_at u name) (omega (arith, above, below));
}

pub others_on : (old mid new : History) (own : List ℕ) → OthersStay old mid own → Elapses mid new → ((name : List ℕ) → name ≢ own → now new name ≡ now mid name) → OthersStay old new own
others_on old mid new own so_far time same = record {
  later = omega (arith, so_far.later, time.later);
  past = λ t le q. time.past t (omega (arith, le, so_far.later)) q ∙ so_far.past t le q;
  each = λ t above below name other. ⊎_elim
      (λ after. time.since t after below name ∙ same name other ∙ so_far.each mid.moment so_far.later (omega arith) name other)
      (λ before. time.past t before name ∙ so_far.each t above before name other)
      (cases_lt mid.moment t);
}

pub others_joined : (old mid new : History) (own : List ℕ) → OthersStay old mid own → OthersStay mid new own → OthersStay old new own
others_joined old mid new own first second = record {
  later = omega (arith, first.later, second.later);
  past = λ t le q. second.past t (omega (arith, le, first.later)) q ∙ first.past t le q;
  each = λ t above below name other. ⊎_elim
      (λ after. second.each t (omega (arith, after)) below name other ∙ first.each mid.moment first.later (omega arith) name other)
      (λ before. second.past t before name ∙ first.each t above before name other)
      (cases_lt mid.moment t);
}

pub others_rest : (old mid : History) (own : List ℕ) → Elapses old mid → SameDisk (now mid) (now old) → OthersStay old mid own
others_rest old mid own time same = others_on old old mid own (others_here old own) time (λ name other. same name)

apart_at : (a b : List ℕ) (t : Bool) → bytes_eq a b ≡ t → b ≢ a → t ≡ false
apart_at a b true same other = absurd (other (sym (same_name a b same)))
apart_at a b false same other = refl

-- a change of one file leaves each other one
pub change_leaves : (disk new : Disk) (own : List ℕ) (how : File → File) → Changes own how disk new → (name : List ℕ) → name ≢ own → new name ≡ disk name
change_leaves disk new own how changes name other = elsewhere disk new own name (option_map how (disk own)) changes (apart_at own name (bytes_eq own name) refl other)

-- ---- what a stop leaves of a file with events

-- a file with these bytes of which so many are synced, and whatever else
record IsPart (least : ℕ) (all : List ℕ) (file : File) : Type 0 where
  tail : List ℕ
  whole : all ≡ file.written ++ tail
  enough : least ≤ file.synced

module _ (begun events : List Event) (each : AllByRecursion IsEvent begun) (each_new : AllByRecursion IsEvent events) where
  all_bytes : run_of (begun ++ events) ≡ run_of begun ++ run_of events
  all_bytes = flat_map-append item_of begun events

  -- bytes between the two
  between : (n : ℕ) (bytes : List ℕ) (few : List Event) → bytes ≡ take n (run_of begun ++ run_of events) → length (run_of begun) ≤ n → Holds bytes few
      → (few ≡ take (length few) (begun ++ events)) × (length begun ≤ length few)
  between n bytes few is enough h =
      let cut : bytes ≡ take n (run_of (begun ++ events)) = is ∙ ap (take n) (sym all_bytes) in
      let h' = subst (λ (b : List ℕ). Holds b few) cut h in
      let first = cuts_whole (run_of (begun ++ events)) n (begun ++ events) few (whole_run (begun ++ events) (all_both begun events each each_new)) h' in
      let front : bytes ≡ run_of begun ++ take (n - length (run_of begun)) (run_of events) =
      is ∙ ap (λ (k : ℕ). take k (run_of begun ++ run_of events)) (omega (arith, enough)) ∙ take-append-add (run_of begun) (run_of events) (n - length (run_of begun)) in
      let a = after begun (take (n - length (run_of begun)) (run_of events)) few each (subst (λ (b : List ℕ). Holds b few) front h) in
      (first, omega (arith, ap length a.split, length-append begun a.tail))

  left_of : (file : File) (left : Option (List ℕ)) → IsPart (length (run_of begun)) (run_of begun ++ run_of events) file → MayStay (Some file) left
      → (bytes : List ℕ) → left ≡ Some bytes → (few : List Event) → Holds bytes few → (few ≡ take (length few) (begun ++ events)) × (length begun ≤ length few)
  left_of file None part stays bytes found few h = absurd (cc found)
  left_of file (Some left) part stays bytes found few h =
      let same : left ≡ bytes = some_same left bytes found in
      let within : length left ≤ length file.written = omega (arith, ap length stays.1, length-take (length left) file.written) in
      let cut : left ≡ take (length left) (run_of begun ++ run_of events) =
      sym (ap (take (length left)) part.whole ∙ take-append-le (length left) file.written part.tail within ∙ stays.1) in
      between (length left) bytes few (sym same ∙ cut) (omega (arith, part.enough, stays.0)) h

  beginning : (disk : Disk) (name : List ℕ) (file : File) → disk name ≡ Some file → IsPart (length (run_of begun)) (run_of begun ++ run_of events) file
      → (folder : Folder) → StopLeaves disk folder → IsBeginning folder name (length begun) (begun ++ events)
  beginning disk name file found part folder leaves = left_of file (folder name) part (subst (λ o. MayStay o (folder name)) found (leaves name))

  -- before the write
  pub begun_left : (disk : Disk) (name : List ℕ) (is_durable : Bool) → disk name ≡ Some (file_with begun is_durable)
      → (folder : Folder) → StopLeaves disk folder → IsBeginning folder name (length begun) (begun ++ events)
  begun_left disk name is_durable found =
      beginning disk name (file_with begun is_durable) found (record { tail = run_of events; whole = refl; enough = omega arith })

  -- with a part of the new bytes
  pub grown_left : (disk new : Disk) (name : List ℕ) (n : ℕ) (is_durable : Bool) → disk name ≡ Some (file_with begun is_durable) → Changes name (with_bytes (take n (run_of events))) disk new
      → (folder : Folder) → StopLeaves new folder → IsBeginning folder name (length begun) (begun ++ events)
  grown_left disk new name n is_durable found changes =
      beginning new name (with_bytes (take n (run_of events)) (file_with begun is_durable)) (own_changed disk new name _ _ changes found) (record {
        tail = drop n (run_of events);
        whole = ap (λ (z : List ℕ). run_of begun ++ z) (sym (take-append-drop n (run_of events))) ∙ sym (append_assoc (run_of begun) (take n (run_of events)) (drop n (run_of events)));
        enough = omega arith;
      })

  -- with all of them, synced
  pub flushed_left : (disk mid new : Disk) (name : List ℕ) (is_durable : Bool) → disk name ≡ Some (file_with begun is_durable) → Changes name (with_bytes (run_of events)) disk mid
      → Changes name flushed mid new → (folder : Folder) → StopLeaves new folder → IsBeginning folder name (length begun) (begun ++ events)
  flushed_left disk mid new name is_durable found first second =
      beginning new name (flushed (with_bytes (run_of events) (file_with begun is_durable))) (own_changed mid new name _ _ second (own_changed disk mid name _ _ first found)) (record {
        tail = [];
        whole = sym (append-nil (run_of begun ++ run_of events));
        enough = omega (arith, length-append (run_of begun) (run_of events));
      })

-- both changes of a write in one
pub changes_both : (disk mid new : Disk) (name bytes : List ℕ) → Changes name (with_bytes bytes) disk mid → Changes name flushed mid new → Changes name (λ f. flushed (with_bytes bytes f)) disk new
changes_both disk mid new name bytes first second q =
    follows disk mid new name (option_map (with_bytes bytes) (disk name)) flushed first second q ∙ ap (λ o. cond (bytes_eq name q) o (disk q)) (twice (disk name))
  where
    twice : (o : Option File) → option_map flushed (option_map (with_bytes bytes) o) ≡ option_map (λ f. flushed (with_bytes bytes f)) o
    twice None = refl
    twice (Some f) = refl

-- the file after a write: all of it is synced
pub written_file : (disk new : Disk) (name bytes : List ℕ) (begun events : List Event) (is_durable : Bool) → disk name ≡ Some (file_with begun is_durable) → bytes ≡ run_of events
    → Changes name (λ f. flushed (with_bytes bytes f)) disk new → new name ≡ Some (kept_file (run_of (begun ++ events)))
written_file disk new name bytes begun events is_durable found is changes =
    own_changed disk new name _ (λ f. flushed (with_bytes bytes f)) changes found
    ∙ ap (λ (w : List ℕ). Some (kept_file w)) (ap (λ (z : List ℕ). run_of begun ++ z) is ∙ sym (flat_map-append item_of begun events))

-- ---- a write at each moment

pub outcome : {T E P Q : Type 0} → (r : Result T E) → OnOk r P → OnErr r Q → P ⊎ Q
outcome (Ok t) p q = inl p
outcome (Err e) p q = inr q

pub err_map : {T E P Q : Type 0} → (r : Result T E) → (P → Q) → OnErr r P → OnErr r Q
err_map (Ok t) f p = tt
err_map (Err e) f p = f p

-- all of the bytes
pub grown_all : (disk new : Disk) (name bytes : List ℕ) → Changes name (with_bytes bytes) disk new → Changes name (with_bytes (take (length bytes) bytes)) disk new
grown_all disk new name bytes = subst (λ (b : List ℕ). Changes name (with_bytes b) disk new) (sym (take_all (length bytes) bytes (omega arith)))

pub same_changes : (disk mid new : Disk) (name : List ℕ) (how : File → File) → Changes name how disk mid → SameDisk new mid → Changes name how disk new
same_changes disk mid new name how changes same q = same q ∙ changes q

pub safe_append : (old mid : History) (own name bytes : List ℕ) (events : List Event) → Elapses old mid → Changes own (with_bytes bytes) (now old) (now mid) → IsSafe (now old) name events
    → StaysSafe old mid name events
safe_append old mid own name bytes events time changes safe = safe_on old old mid name events (safe_here old name events safe) time (safe_grown (now old) (now mid) own name bytes events changes safe)

pub others_append : (old mid : History) (own bytes : List ℕ) → Elapses old mid → Changes own (with_bytes bytes) (now old) (now mid) → OthersStay old mid own
others_append old mid own bytes time changes = others_on old old mid own (others_here old own) time (change_leaves (now old) (now mid) own (with_bytes bytes) changes)

pub others_sync : (mid new : Disk) (own : List ℕ) → Changes own flushed mid new ⊎ SameDisk new mid → (name : List ℕ) → name ≢ own → new name ≡ mid name
others_sync mid new own how name other = ⊎_elim (λ changes. change_leaves mid new own flushed changes name other) (λ same. same name) how

pub safe_sync : (mid new : Disk) (own name : List ℕ) (events : List Event) → Changes own flushed mid new ⊎ SameDisk new mid → IsSafe mid name events → IsSafe new name events
safe_sync mid new own name events how safe = ⊎_elim (λ changes. safe_flushed mid new own name events changes safe) (λ same. safe_same mid new name events same safe) how

module _ (old : History) (name bytes : List ℕ) (begun events : List Event) (is_durable : Bool) (found : now old name ≡ Some (file_with begun is_durable))
    (each : AllByRecursion IsEvent begun) (each_new : AllByRecursion IsEvent events) (is : bytes ≡ run_of events) where
  pub begun_here : LeavesOnly old old (λ folder. IsBeginning folder name (length begun) (begun ++ events))
  begun_here = started old (λ folder. IsBeginning folder name (length begun) (begun ++ events)) (begun_left begun events each each_new (now old) name is_durable found)

  pub begun_append : (mid : History) (n : ℕ) → Elapses old mid → Changes name (with_bytes (take n bytes)) (now old) (now mid)
      → LeavesOnly old mid (λ folder. IsBeginning folder name (length begun) (begun ++ events))
  begun_append mid n time changes =
      goes_on old old mid (λ folder. IsBeginning folder name (length begun) (begun ++ events)) begun_here time
      (grown_left begun events each each_new (now old) (now mid) name n is_durable found (subst (λ (b : List ℕ). Changes name (with_bytes (take n b)) (now old) (now mid)) is changes))

  pub begun_sync : (mid new : History) → Elapses old mid → Elapses mid new → Changes name (with_bytes bytes) (now old) (now mid) → Changes name flushed (now mid) (now new) ⊎ SameDisk (now new) (now mid)
      → LeavesOnly old new (λ folder. IsBeginning folder name (length begun) (begun ++ events))
  begun_sync mid new first second changes how =
      let so_far = begun_append mid (length bytes) first (grown_all (now old) (now mid) name bytes changes) in
      ⊎_elim
      (λ flush.
      goes_on old mid new (λ folder. IsBeginning folder name (length begun) (begun ++ events)) so_far second
      (flushed_left begun events each each_new (now old) (now mid) (now new) name is_durable found (subst (λ (b : List ℕ). Changes name (with_bytes b) (now old) (now mid)) is changes) flush))
      (λ same. rests old mid new (λ folder. IsBeginning folder name (length begun) (begun ++ events)) so_far second same)
      how

pub err_grown : {T E : Type 0} → (old mid new : Disk) (name bytes : List ℕ) (r : Result T E) → Changes name (with_bytes bytes) old mid → OnErr r (SameDisk new mid)
    → OnErr r ((n : ℕ) × Changes name (with_bytes (take n bytes)) old new)
err_grown old mid new name bytes r changes = err_map r (λ same. (length bytes, same_changes old mid new name (with_bytes (take (length bytes) bytes)) (grown_all old mid name bytes changes) same))

-- ---- a write of an open sink

-- what was begun, after one write more
pub begun_next : (writes next : List (List Event)) (stored : StoredView) (path tag : List ℕ) (entries : List (List ℕ)) → next ≡ under stored.tag stored.entries ∷ writes
    → stored ≡ (let s : StoredView = record { path = path; tag = tag; entries = entries } in s) → written_by next ≡ written_by writes ++ under tag entries
begun_next writes next stored path tag entries is same =
    ap written_by is ∙ ap (λ (s : StoredView). written_by writes ++ under s.tag s.entries) same

pub sound_next : (before after : Option (List ℕ)) (name : List ℕ) (writes next : List (List Event)) (stored : StoredView) (path tag : List ℕ) (entries : List (List ℕ)) → IsSound before name (written_by writes)
    → after ≡ before → next ≡ under stored.tag stored.entries ∷ writes → stored ≡ (let s : StoredView = record { path = path; tag = tag; entries = entries } in s)
    → AllByRecursion IsEvent (under tag entries) → IsSound after name (written_by next)
sound_next before after name writes next stored path tag entries sound kept is same each = record {
  named = kept ∙ sound.named;
  each = subst (AllByRecursion IsEvent) (sym (begun_next writes next stored path tag entries is same)) (all_both (written_by writes) (under tag entries) sound.each each);
}

-- what is wholly written is safe
pub kept_safe : (disk : Disk) (name : List ℕ) (events : List Event) → AllByRecursion IsEvent events → disk name ≡ Some (kept_file (run_of events)) → IsSafe disk name events
kept_safe disk name events each found = record {
  file = kept_file (run_of events);
  found = found;
  durable = refl;
  there = refl;
  each = each;
  more = [];
  synced = take_all (length (run_of events)) (run_of events) (omega arith) ∙ sym (append-nil (run_of events));
}

-- a beginning with all that was begun is one of what is begun next
pub begun_longer : (folder : Folder) (name : List ℕ) (begun events : List Event) → IsBeginning folder name (length begun) (begun ++ []) → IsBeginning folder name (length begun) (begun ++ events)
begun_longer folder name begun events was bytes found few held =
    let w = was bytes found few held in
    let all : few ≡ take (length few) begun = w.0 ∙ ap (take (length few)) (append-nil begun) in
    let within : length few ≤ length begun = omega (arith, ap length all, length-take (length few) begun) in
    (all ∙ sym (take-append-le (length few) begun events within), w.1)

pub begun_rests : (old mid : History) (name : List ℕ) (begun events : List Event) (is_durable : Bool) → now old name ≡ Some (file_with begun is_durable) → AllByRecursion IsEvent begun
    → Elapses old mid → SameDisk (now mid) (now old) → LeavesOnly old mid (λ folder. IsBeginning folder name (length begun) (begun ++ events))
begun_rests old mid name begun events is_durable found each time same =
    rests old old mid (λ folder. IsBeginning folder name (length begun) (begun ++ events))
    (started old (λ folder. IsBeginning folder name (length begun) (begun ++ events))
    (λ folder leaves. begun_longer folder name begun events (begun_left begun [] each tt (now old) name is_durable found folder leaves)))
    time same

pub begun_joined : (old mid new : History) (name : List ℕ) (begun events : List Event) → LeavesOnly old mid (λ folder. IsBeginning folder name (length begun) (begun ++ events))
    → LeavesOnly mid new (λ folder. IsBeginning folder name (length begun) (begun ++ events)) → LeavesOnly old new (λ folder. IsBeginning folder name (length begun) (begun ++ events))
begun_joined old mid new name begun events = joined old mid new (λ folder. IsBeginning folder name (length begun) (begun ++ events))

pub safe_rests : (old mid : History) (name : List ℕ) (events : List Event) → Elapses old mid → SameDisk (now mid) (now old) → IsSafe (now old) name events → StaysSafe old mid name events
safe_rests old mid name events time same safe = safe_on old old mid name events (safe_here old name events safe) time (safe_same (now old) (now mid) name events same safe)

pub is_some_of : (o : Option (List ℕ)) (x : List ℕ) → o ≡ Some x → IsSome o
is_some_of o x is = subst IsSome (sym is) refl

-- ---- a new file

made_at : (disk new : Disk) (own name : List ℕ) (events : List Event) → disk own ≡ None → (safe : IsSafe disk name events) → (b : Bool) → bytes_eq own name ≡ b
    → new name ≡ cond b (Some new_file) (disk name) → IsSafe new name events
made_at disk new own name events none safe true same made = let e = ap disk (same_name own name same) in absurd (cc (e, none, safe.found))
made_at disk new own name events none safe false other made = safe_of new name events safe.file safe.each (made ∙ safe.found) (sure_of disk name events safe)

pub safe_made : (disk new : Disk) (own name : List ℕ) (events : List Event) → Makes own disk new → IsSafe disk name events → IsSafe new name events
safe_made disk new own name events makes safe = made_at disk new own name events makes.0 safe (bytes_eq own name) refl (makes.1 name)

pub safe_then : (disk new : Disk) (own name : List ℕ) (events : List Event) → SameDisk new disk ⊎ Makes own disk new → IsSafe disk name events → IsSafe new name events
safe_then disk new own name events outcome_is safe =
    ⊎_elim (λ same. safe_same disk new name events same safe) (λ makes. safe_made disk new own name events makes safe) outcome_is
