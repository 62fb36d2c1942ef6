-- A change of a folder in memory, as the disk sees it.
use Rattle.std.proofs.Common.{◌≡◌, ◌≢◌, ⊎_elim, not, ℕ, suc, ◌+◌, ◌≤◌, cond, Bool, true, false, List, [], ◌∷◌, ◌++◌, length, Option, Some, None, IsSome, is_some, option_map, nat_lt, slice_get, get_or, position, refl, sym, ◌∙◌, ap, subst, arith}
use Rattle.std.specs.Prelude.{IsTrue, ◌↔◌}
use Rattle.std.specs.Str.{bytes_eq}
use Rattle.std.specs.List.{position_from}
use Rattle.std.proofs.lemmas.Option.{slice_get_read, slice_get_within}
use Rattle.std.proofs.lemmas.Iterator.Adapters.{position_from-zero}
use Rattle.std.proofs.lemmas.Bool.Decides.{eqb_tells}
use Rattle.disk_files.specs.Disk.{File, Disk, new_file, SameDisk, Makes, Changes, reads, read_of, WasRemoved}
use Rattle.disk_files.specs.Entry.{Entry}
use Rattle.disk_files.specs.Table.{disk_of, IsSound, name_of, is_open_of, opened_of, room_of, ChangesAt, SameOpen, SetsOpen}
use Rattle.disk_files.specs.Past.{disk_then, history_of}
use Rattle.disk_files.specs.Moments.{Elapses, now}
use Rattle.disk_files.specs.declared.dir.FileNo.{FileNo}
use Rattle.disk_files.specs.Readable.{now_is}
use Rattle.disk_files.proofs.Table.{same_name, entry_read, there_at, there, same_entry, get_set, get_set_other, found, disk_set, sound_set, disk_more, sound_more, get_more, get_more_other}

pub changes_same : (a a' b b' : Disk) (name : List ℕ) (how : File → File) → SameDisk a' a → SameDisk b' b → Changes name how a b → Changes name how a' b'
changes_same a a' b b' name how first second change q =
    second q ∙ change q ∙ sym (ap (λ s. cond (bytes_eq name q) (option_map how s) (a' q)) (first name) ∙ ap (cond (bytes_eq name q) (option_map how (a name))) (first q))

pub makes_same : (a a' b b' : Disk) (name : List ℕ) → SameDisk a' a → SameDisk b' b → Makes name a b → Makes name a' b'
makes_same a a' b b' name first second made =
    (first name ∙ made.0, λ q. second q ∙ made.1 q ∙ sym (ap (cond (bytes_eq name q) (Some new_file)) (first q)))

name_or : Option (List ℕ) → List ℕ
name_or None = []
name_or (Some name) = name

-- the name by which a file may be used is its name
own_name : (o : Option Entry) (f : Entry) (name : List ℕ) → o ≡ Some f → name_of o ≡ Some name → f.name ≡ name
unfolding name_or
own_name None f name got opened = absurd (cc got)
own_name (Some e) f name got opened = ap (λ x. x.name) (sym (same_entry e f got)) ∙ by e.state.is_removed opened
  where
    by : (b : Bool) → cond b None (Some e.name) ≡ Some name → e.name ≡ name
    by true is = absurd (cc is)
    by false is = ap name_or is

-- An open file is there

pub opened_name : (o : Option Entry) (name : List ℕ) → opened_of o ≡ Some name → name_of o ≡ Some name
opened_name o name = by (is_open_of o)
  where
    by : (b : Bool) → cond b (name_of o) None ≡ Some name → name_of o ≡ Some name
    by true is = is
    by false is = absurd (cc is)

pub opened_there : (o : Option Entry) → IsSome (opened_of o) → IsSome (name_of o)
opened_there o = by (is_open_of o)
  where
    by : (b : Bool) → IsSome (cond b (name_of o) None) → IsSome (name_of o)
    by true some = some
    by false some = absurd (cc some)

pub opened_is : (o : Option Entry) → IsSome (opened_of o) → is_open_of o ≡ true
opened_is o = by (is_open_of o)
  where
    by : (b : Bool) → IsSome (cond b (name_of o) None) → b ≡ true
    by true some = refl
    by false some = absurd (cc some)

-- the file of this name, where it is there, is open
pub open_as : (o : Option Entry) (name : List ℕ) → name_of o ≡ Some name → is_open_of o ≡ true → opened_of o ≡ Some name
open_as o name there is = ap (λ b. cond b (name_of o) None) is ∙ there

pub shut_as : (o : Option Entry) → is_open_of o ≡ false → opened_of o ≡ None
shut_as o is = ap (λ b. cond b (name_of o) None) is

pub same_as : (o new : Option Entry) → is_open_of new ≡ is_open_of o → name_of new ≡ name_of o → opened_of new ≡ opened_of o
same_as o new is name = ap (λ b. cond b (name_of new) None) is ∙ ap (λ n. cond (is_open_of o) n None) name

module _ (files new : List Entry) (at : ℕ) (how : File → File) (c : ChangesAt at how files new) where
  g : Entry
  g = record { name = c.entry.name; state = how c.entry.state; room = c.room; is_open = c.is_open }

  pub sound_changed : ((f : File) → f.synced ≤ length f.written → (how f).synced ≤ length (how f).written) → IsSound files → IsSound new
  unfolding g
  sound_changed keeps sound = subst IsSound (sym c.set) (sound_set files at c.entry g sound c.found refl (keeps c.entry.state))

  pub disk_changed : IsSound files → (name : List ℕ) → name_of (slice_get files at) ≡ Some name → Changes name how (disk_of files) (disk_of new)
  unfolding g
  disk_changed sound name opened q =
      let own = own_name (slice_get files at) c.entry name c.found opened in
      let here : disk_of files name ≡ Some c.entry.state = sym (ap (disk_of files) own) ∙ found files at c.entry sound c.found in
      ap (λ fs. disk_of fs q) c.set
      ∙ disk_set files at c.entry g sound c.found refl q
      ∙ ap (λ n. cond (bytes_eq n q) (Some (how c.entry.state)) (disk_of files q)) own
      ∙ sym (ap (λ s. cond (bytes_eq name q) (option_map how s) (disk_of files q)) here)

  pub now_changed : (past past' : List (List Entry)) → IsSound files → (name : List ℕ) → opened_of (slice_get files at) ≡ Some name
      → Changes name how (now (history_of files past)) (now (history_of new past'))
  now_changed past past' sound name opened =
      changes_same _ _ _ _ name how (now_is files past) (now_is new past') (disk_changed sound name (opened_name (slice_get files at) name opened))

  other_at : (j : ℕ) → j ≢ at → slice_get new j ≡ slice_get files j
  unfolding g
  other_at j other = ap (λ fs. slice_get fs j) c.set ∙ get_set_other files at j g other

  own_at : slice_get new at ≡ Some g
  unfolding g
  own_at = ap (λ fs. slice_get fs at) c.set ∙ get_set files at c.entry g c.found

  name_other : (j : ℕ) → j ≢ at → name_of (slice_get new j) ≡ name_of (slice_get files j)
  name_other j other = ap name_of (other_at j other)

  pub opened_other : (j : ℕ) → j ≢ at → opened_of (slice_get new j) ≡ opened_of (slice_get files j)
  opened_other j other = ap opened_of (other_at j other)

  pub closed_at : ((f : File) → (how f).is_removed ≡ true) → opened_of (slice_get new at) ≡ None
  unfolding g
  closed_at gone =
      no_name (slice_get new at) (ap name_of own_at ∙ ap (λ b. cond b None (Some c.entry.name)) (gone c.entry.state))
    where
      no_name : (o : Option Entry) → name_of o ≡ None → opened_of o ≡ None
      no_name o none = by (is_open_of o)
        where
          by : (b : Bool) → cond b (name_of o) None ≡ None
          by true = none
          by false = refl

  pub room_other : (j : ℕ) → j ≢ at → room_of (slice_get files j) ≤ room_of (slice_get new j)
  room_other j other = subst (λ o. room_of (slice_get files j) ≤ room_of o) (sym (other_at j other)) (omega arith)

  pub name_same : ((f : File) → (how f).is_removed ≡ f.is_removed) → (j : ℕ) → name_of (slice_get new j) ≡ name_of (slice_get files j)
  unfolding g
  name_same keeps j = ⊎_elim
      (λ own. subst (λ k. name_of (slice_get new k) ≡ name_of (slice_get files k)) (sym own.1)
      (ap name_of own_at ∙ ap (λ b. cond b None (Some c.entry.name)) (keeps c.entry.state) ∙ ap name_of (sym c.found)))
      (λ other. name_other j other.1)
      (eqb_tells j at)

  pub opened_same : SameOpen files new → ((f : File) → (how f).is_removed ≡ f.is_removed) → (j : ℕ) → opened_of (slice_get new j) ≡ opened_of (slice_get files j)
  opened_same same keeps j = same_as (slice_get files j) (slice_get new j) (same j) (name_same keeps j)

  -- after this file was opened, what was open is open
  pub opened_more : SetsOpen at true files new → ((f : File) → (how f).is_removed ≡ f.is_removed) → (j : ℕ) → IsSome (opened_of (slice_get files j)) → opened_of (slice_get new j) ≡ opened_of (slice_get files j)
  opened_more sets keeps j some = ⊎_elim
      (λ own. same_as (slice_get files j) (slice_get new j) (ap (λ k. is_open_of (slice_get new k)) own.1 ∙ sets.own ∙ sym (opened_is (slice_get files j) some)) (name_same keeps j))
      (λ other. opened_other j other.1)
      (eqb_tells j at)

  pub room_all : room_of (slice_get files at) ≤ room_of (slice_get new at) → (j : ℕ) → room_of (slice_get files j) ≤ room_of (slice_get new j)
  room_all more j = ⊎_elim
      (λ own. subst (λ k. room_of (slice_get files k) ≤ room_of (slice_get new k)) (sym own.1) more)
      (λ other. room_other j other.1)
      (eqb_tells j at)

-- the change, where the table before it is known to be another's
pub changes_from : (files mid new : List Entry) (at : ℕ) (how : File → File) → mid ≡ files → ChangesAt at how mid new → ChangesAt at how files new
changes_from files mid new at how same change = subst (λ fs. ChangesAt at how fs new) same change

pub number_apart : (a b : FileNo) → a ≢ b → a.0 ≢ b.0
number_apart a b other same = other (ap (λ n. let f : FileNo = record { 0 = n } in f) same)

pub rooms_from : (files mid new : List Entry) (at : ℕ) (how : File → File) → mid ≡ files → ChangesAt at how mid new
    → room_of (slice_get mid at) ≤ room_of (slice_get new at) → (j : ℕ) → room_of (slice_get files j) ≤ room_of (slice_get new j)
rooms_from files mid new at how same change more j =
    subst (λ fs. room_of (slice_get fs j) ≤ room_of (slice_get new j)) same (room_all mid new at how change more j)

-- A change of the room alone

unchanged_at : (b : Bool) (s : Option File) (x : Option File) → (b ≡ true → x ≡ s) → cond b s x ≡ x
unchanged_at true s x same = sym (same refl)
unchanged_at false s x same = refl

pub same_disk : (files new : List Entry) (at : ℕ) → ChangesAt at (λ f. f) files new → IsSound files → SameDisk (disk_of new) (disk_of files)
same_disk files new at change sound name =
    let f = change.entry in
    let g : Entry = record { name = f.name; state = f.state; room = change.room; is_open = change.is_open } in
    ap (λ fs. disk_of fs name) change.set ∙ disk_set files at f g sound change.found refl name
    ∙ unchanged_at (bytes_eq f.name name) (Some f.state) (disk_of files name) (λ own. sym (ap (disk_of files) (same_name f.name name own)) ∙ found files at f sound change.found)

pub same_then : (files new : List Entry) (past : List (List Entry)) → SameDisk (disk_of new) (disk_of files) → (t : ℕ) → SameDisk (disk_then new past t) (disk_then files past t)
same_then files new [] same t name = same name
same_then files new (before ∷ earlier) same t name = by (nat_lt (length earlier) t)
  where
    by : (b : Bool) → cond b (disk_of new) (disk_then before earlier t) name ≡ cond b (disk_of files) (disk_then before earlier t) name
    by true = same name
    by false = refl

pub same_elapses : (files new : List Entry) (past : List (List Entry)) → SameDisk (disk_of new) (disk_of files) → Elapses (history_of files past) (history_of new past)
same_elapses files new past same = record {
  later = omega arith;
  past = λ t le. same_then files new past same t;
  since = λ t above below. absurd (omega (arith, above, below));
}

-- What an open file holds

written_or : Option (List ℕ) → List ℕ
written_or None = []
written_or (Some bytes) = bytes

pub bytes_of : (files : List Entry) (past : List (List Entry)) (at : ℕ) (e : Entry) (name bytes : List ℕ) → IsSound files → e ≡ get_or files at e
    → opened_of (slice_get files at) ≡ Some name → reads (now (history_of files past)) name ≡ Some bytes → e.state.written ≡ bytes
unfolding written_or
bytes_of files past at e name bytes sound read opened holds =
    let named = opened_name (slice_get files at) name opened in
    let some : IsSome (name_of (slice_get files at)) = subst IsSome (sym named) refl in
    let got = entry_read files at e some read in
    let here : disk_of files name ≡ Some e.state = sym (ap (disk_of files) (own_name (slice_get files at) e name got named)) ∙ found files at e sound got in
    let left = there files at e some read in
    ap written_or (sym (ap (λ b. cond b None (Some e.state.written)) left) ∙ sym (ap read_of here) ∙ sym (ap read_of (now_is files past name)) ∙ holds)

-- The place of a name

pub record IsPlaceOf (files : List Entry) (name : List ℕ) (at : ℕ) : Type 0 where
  pub entry : Entry
  pub found : slice_get files at ≡ Some entry
  pub named : entry.name ≡ name

number_or : Option ℕ → ℕ
number_or None = 0
number_or (Some n) = n

place_from_at : (d : Entry) (rest : List Entry) (name : List ℕ) (k i : ℕ) (b : Bool) → bytes_eq d.name name ≡ b
    → (position_from (λ e. bytes_eq e.name name) (k + 1) rest ≡ Some i → (j : ℕ) × (i ≡ k + 1 + j) × IsPlaceOf rest name j)
    → cond b (Some k) (position_from (λ e. bytes_eq e.name name) (k + 1) rest) ≡ Some i → (j : ℕ) × (i ≡ k + j) × IsPlaceOf (d ∷ rest) name j
unfolding number_or
place_from_at d rest name k i true is next got = (0, omega (arith, ap number_or got), record { entry = d; found = refl; named = same_name d.name name is })
place_from_at d rest name k i false is next got =
    let more = next got in
    (suc more.0, omega (arith, more.1), record { entry = more.2.entry; found = more.2.found; named = more.2.named })

place_from : (files : List Entry) (name : List ℕ) (k i : ℕ) → position_from (λ e. bytes_eq e.name name) k files ≡ Some i → (j : ℕ) × (i ≡ k + j) × IsPlaceOf files name j
place_from [] name k i got = absurd (cc got)
place_from (d ∷ rest) name k i got = place_from_at d rest name k i (bytes_eq d.name name) refl (place_from rest name (k + 1) i) got

none_from_at : (d : Entry) (rest : List Entry) (name : List ℕ) (k : ℕ) (b : Bool) → bytes_eq d.name name ≡ b
    → (position_from (λ e. bytes_eq e.name name) (k + 1) rest ≡ None → disk_of rest name ≡ None)
    → cond b (Some k) (position_from (λ e. bytes_eq e.name name) (k + 1) rest) ≡ None → cond b (Some d.state) (disk_of rest name) ≡ None
none_from_at d rest name k true is next got = absurd (cc got)
none_from_at d rest name k false is next got = next got

none_from : (files : List Entry) (name : List ℕ) (k : ℕ) → position_from (λ e. bytes_eq e.name name) k files ≡ None → disk_of files name ≡ None
none_from [] name k got = refl
none_from (d ∷ rest) name k got = none_from_at d rest name k (bytes_eq d.name name) refl (none_from rest name (k + 1)) got

pub place_found : (files : List Entry) (name : List ℕ) (i : ℕ) → position (λ e. bytes_eq e.name name) files ≡ Some i → IsPlaceOf files name i
place_found files name i got =
    let found = place_from files name 0 i (sym (position_from-zero (λ e. bytes_eq e.name name) files) ∙ got) in
    subst (IsPlaceOf files name) (omega (arith, found.1)) found.2

pub place_none : (files : List Entry) (name : List ℕ) → position (λ e. bytes_eq e.name name) files ≡ None → disk_of files name ≡ None
place_none files name got = none_from files name 0 (sym (position_from-zero (λ e. bytes_eq e.name name) files) ∙ got)

pub none_of : (o : Option ℕ) → is_some o ≡ false → o ≡ None
none_of None is = refl
none_of (Some n) is = absurd (cc is)

pub some_of : (o : Option ℕ) → is_some o ≡ true → (n : ℕ) × (o ≡ Some n)
some_of None is = absurd (cc is)
some_of (Some n) is = (n, refl)

-- The table with a new file

module _ (files mid more : List Entry) (e : Entry) (name : List ℕ) (mid_is : mid ≡ files) (more_is : more ≡ mid ++ e ∷ []) (named : e.name ≡ name) where
  is_more : more ≡ files ++ e ∷ []
  is_more = more_is ∙ ap (λ fs. fs ++ e ∷ []) mid_is

  none_named : disk_of files name ≡ None → disk_of files e.name ≡ None
  none_named none = ap (disk_of files) named ∙ none

  pub sound_made : e.state ≡ new_file → IsSound files → disk_of files name ≡ None → IsSound more
  sound_made new sound none =
      subst IsSound (sym is_more) (sound_more files e sound (none_named none) (subst (λ s. s.synced ≤ length s.written) (sym new) (omega arith)))

  pub now_made : (past past' : List (List Entry)) → e.state ≡ new_file → disk_of files name ≡ None → Makes name (now (history_of files past)) (now (history_of more past'))
  now_made past past' new none = makes_same _ _ _ _ name (now_is files past) (now_is more past') (
    none,
    λ q. ap (λ fs. disk_of fs q) is_more ∙ disk_more files e q (none_named none)
        ∙ ap (λ n. cond (bytes_eq n q) (Some e.state) (disk_of files q)) named ∙ ap (λ s. cond (bytes_eq name q) (Some s) (disk_of files q)) new,
  )

  pub get_made : slice_get more (length mid) ≡ Some e
  get_made = ap (λ fs. slice_get fs (length mid)) is_more ∙ ap (λ fs. slice_get (files ++ e ∷ []) (length fs)) mid_is ∙ get_more files e

  kept_at : (j : ℕ) (o : Option Entry) → slice_get files j ≡ o → IsSome (name_of o) → slice_get more j ≡ slice_get files j
  kept_at j None got some = absurd (cc some)
  kept_at j (Some f) got some = ap (λ fs. slice_get fs j) is_more ∙ get_more_other files e j f got ∙ sym got

  pub kept_made : (j : ℕ) → IsSome (name_of (slice_get files j)) → slice_get more j ≡ slice_get files j
  kept_made j some = kept_at j (slice_get files j) refl some

-- A file that may be used is one that reads

pub reads_at : (files : List Entry) (at : ℕ) (name : List ℕ) → IsSound files → (o : Option Entry) → slice_get files at ≡ o → name_of o ≡ Some name → IsSome (read_of (disk_of files name))
reads_at files at name sound None got opened = absurd (cc opened)
reads_at files at name sound (Some e) got opened =
    let own = own_name (Some e) e name refl opened in
    let here : disk_of files name ≡ Some e.state = sym (ap (disk_of files) own) ∙ found files at e sound got in
    let left = there_at (Some e) e refl (subst IsSome (sym opened) refl) in
    subst IsSome (sym (ap read_of here ∙ ap (λ b. cond b None (Some e.state.written)) left)) refl

pub opened_reads : (files : List Entry) (past : List (List Entry)) (at : ℕ) (name : List ℕ) → IsSound files → name_of (slice_get files at) ≡ Some name → IsSome (reads (now (history_of files past)) name)
opened_reads files past at name sound opened =
    subst (λ s. IsSome (read_of s)) (sym (now_is files past name)) (reads_at files at name sound (slice_get files at) refl opened)

pub nothing_reads : (files : List Entry) (past : List (List Entry)) (name : List ℕ) → read_of (disk_of files name) ≡ None → reads (now (history_of files past)) name ≡ None
nothing_reads files past name none = ap read_of (now_is files past name) ∙ none

pub is_opened : (files : List Entry) (name : List ℕ) (at : ℕ) (e : Entry) → IsPlaceOf files name at → e ≡ get_or files at e → e.state.is_removed ≡ false → name_of (slice_get files at) ≡ Some name
is_opened files name at e place read left =
    let got = slice_get_read files (length files) at e refl (slice_get_within files at place.entry place.found) read in
    let same = same_entry e place.entry (sym got ∙ place.found) in
    ap name_of got ∙ ap (λ b. cond b None (Some e.name)) left ∙ ap (λ x. Some x.name) same ∙ ap Some place.named

pub is_gone : (files : List Entry) (name : List ℕ) (at : ℕ) (e : Entry) → IsSound files → IsPlaceOf files name at → e ≡ get_or files at e → e.state.is_removed ≡ true → read_of (disk_of files name) ≡ None
is_gone files name at e sound place read gone =
    let got = slice_get_read files (length files) at e refl (slice_get_within files at place.entry place.found) read in
    let same = same_entry e place.entry (sym got ∙ place.found) in
    let here : disk_of files name ≡ Some e.state = sym (ap (disk_of files) (ap (λ x. x.name) same ∙ place.named)) ∙ found files at e sound got in
    ap read_of here ∙ ap (λ b. cond b None (Some e.state.written)) gone

-- A file that was removed

removed_at : (f : File) (o : Option File) (b there : Bool) → f.is_removed ≡ b → there ≡ not b → o ≡ Some f → IsTrue (not there) ↔ (IsSome o × (read_of o ≡ None))
removed_at f o true there removed is here = (
  λ yes. (subst IsSome (sym here) refl, ap read_of here ∙ ap (λ b. cond b None (Some f.written)) removed),
  λ gone. ap not is,
)
removed_at f o false there removed is here = (
  λ yes. absurd (let no = ap not is in cc (yes, no)),
  λ gone. absurd (let read = sym (ap read_of here ∙ ap (λ b. cond b None (Some f.written)) removed) ∙ gone.1 in cc read),
)

pub removed_found : (files : List Entry) (name : List ℕ) (at : ℕ) (e : Entry) (there : Bool) → IsPlaceOf files name at → e ≡ get_or files at e → there ≡ not e.state.is_removed → IsSound files → IsTrue (not there) ↔ WasRemoved (disk_of files) name
removed_found files name at e there place read is sound =
    let got = slice_get_read files (length files) at e refl (slice_get_within files at place.entry place.found) read in
    let same = same_entry e place.entry (sym got ∙ place.found) in
    removed_at e.state (disk_of files name) e.state.is_removed there refl is (sym (ap (disk_of files) (ap (λ x. x.name) same ∙ place.named)) ∙ found files at e sound got)

no_file : (o : Option File) → o ≡ None → IsSome o → ⊥
no_file o none some = let gone = subst IsSome none some in cc gone

pub removed_none : (files : List Entry) (name : List ℕ) → disk_of files name ≡ None → IsTrue false ↔ WasRemoved (disk_of files) name
removed_none files name none = (λ yes. absurd (cc yes), λ gone. absurd (no_file (disk_of files name) none gone.0))

pub removed_now : (files : List Entry) (past : List (List Entry)) (name : List ℕ) (b : Bool) → IsTrue b ↔ WasRemoved (disk_of files) name → IsTrue b ↔ WasRemoved (now (history_of files past)) name
removed_now files past name b there = subst (λ (o : Option File). IsTrue b ↔ (IsSome o × (read_of o ≡ None))) (sym (now_is files past name)) there
