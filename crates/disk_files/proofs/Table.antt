-- The table of a folder in memory, and the disk that it stands for.
use Rattle.std.proofs.Common.{◌≡◌, ◌≢◌, ⊎_elim, ℕ, zero, suc, ◌+◌, ◌<◌, ◌≤◌, cond, Bool, true, false, List, [], ◌∷◌, ◌++◌, length, Option, Some, None, IsSome, slice_get, slice_set, get_or, refl, sym, ◌∙◌, ap, subst}
use Rattle.std.specs.Str.{bytes_eq}
use Rattle.std.proofs.lemmas.Option.{slice_get_read, slice_get_within}
use Rattle.std.proofs.lemmas.Bool.{true≢false}
use Rattle.std.proofs.lemmas.Bool.Decides.{eqb_tells}
use Rattle.std.proofs.lemmas.Slice.Eq.{bytes_eq-Decides}
use Rattle.disk_files.specs.Disk.{File}
use Rattle.disk_files.specs.Entry.{Entry}
use Rattle.disk_files.specs.Table.{disk_of, IsSound, name_of, is_open_of, room_of, ChangesAt, SameOpen, SetsOpen}

-- Two names

pub itself : (name : List ℕ) → bytes_eq name name ≡ true
itself name = (bytes_eq-Decides name name).1 refl

pub same_name : (a b : List ℕ) → bytes_eq a b ≡ true → a ≡ b
same_name a b = (bytes_eq-Decides a b).0

turned_at : (a b : List ℕ) (t : Bool) → bytes_eq b a ≡ t → bytes_eq a b ≡ false → t ≡ false
turned_at a b true same apart = sym (itself a) ∙ ap (bytes_eq a) (sym (same_name b a same)) ∙ apart
turned_at a b false same apart = refl

pub turned : (a b : List ℕ) → bytes_eq a b ≡ false → bytes_eq b a ≡ false
turned a b apart = turned_at a b (bytes_eq b a) refl apart

-- A place of the table

entry_or : Entry → Option Entry → Entry
entry_or d None = d
entry_or d (Some e) = e

pub same_entry : (d e : Entry) → Some d ≡ Some e → d ≡ e
unfolding entry_or
same_entry d e got = ap (entry_or d) got

pub get_set : {X : Type 0} → (files : List X) (i : ℕ) (f g : X) → slice_get files i ≡ Some f → slice_get (slice_set files i g) i ≡ Some g
get_set [] i f g got = absurd (cc got)
get_set (d ∷ rest) zero f g got = refl
get_set (d ∷ rest) (suc i) f g got = get_set rest i f g got

pub get_set_other : {X : Type 0} → (files : List X) (i j : ℕ) (g : X) → j ≢ i → slice_get (slice_set files i g) j ≡ slice_get files j
get_set_other [] i j g other = refl
get_set_other (d ∷ rest) zero zero g other = absurd (other refl)
get_set_other (d ∷ rest) zero (suc j) g other = refl
get_set_other (d ∷ rest) (suc i) zero g other = refl
get_set_other (d ∷ rest) (suc i) (suc j) g other = get_set_other rest i j g (λ same. other (ap suc same))

within_at : (files : List Entry) (at : ℕ) (o : Option Entry) → slice_get files at ≡ o → IsSome (name_of o) → at < length files
within_at files at None got some = absurd (cc some)
within_at files at (Some e) got some = slice_get_within files at e got

pub within : (files : List Entry) (at : ℕ) → IsSome (name_of (slice_get files at)) → at < length files
within files at some = within_at files at (slice_get files at) refl some

pub entry_read : (files : List Entry) (at : ℕ) (f : Entry) → IsSome (name_of (slice_get files at)) → f ≡ get_or files at f → slice_get files at ≡ Some f
entry_read files at f some read = slice_get_read files (length files) at f refl (within files at some) read

-- the file at a place has a name, so it isn't removed
pub there_at : (o : Option Entry) (f : Entry) → o ≡ Some f → IsSome (name_of o) → f.state.is_removed ≡ false
there_at None f got some = absurd (cc got)
there_at (Some e) f got some = ap (λ x. x.state.is_removed) (sym (same_entry e f got)) ∙ by e.state.is_removed e.name some
  where
    by : (b : Bool) (name : List ℕ) → IsSome (cond b None (Some name)) → b ≡ false
    by true name some = absurd (cc some)
    by false name some = refl

pub there : (files : List Entry) (at : ℕ) (f : Entry) → IsSome (name_of (slice_get files at)) → f ≡ get_or files at f → f.state.is_removed ≡ false
there files at f some read = there_at (slice_get files at) f (entry_read files at f some read) some

pub changed : (files : List Entry) (at : ℕ) (how : File → File) (f g : Entry) → IsSome (name_of (slice_get files at)) → f ≡ get_or files at f
    → g.name ≡ f.name → g.state ≡ how f.state → ChangesAt at how files (slice_set files at g)
changed files at how f g some read name state = record {
  entry = f;
  room = g.room;
  is_open = g.is_open;
  found = entry_read files at f some read;
  set = ap (slice_set files at)
      (ap (λ n. let e : Entry = record { name = n; state = g.state; room = g.room; is_open = g.is_open } in e) name
      ∙ ap (λ s. let e : Entry = record { name = f.name; state = s; room = g.room; is_open = g.is_open } in e) state);
}

pub room_grows : (files : List Entry) (at n : ℕ) (f g : Entry) → IsSome (name_of (slice_get files at)) → f ≡ get_or files at f
    → f.room ≤ g.room + n → room_of (slice_get files at) ≤ room_of (slice_get (slice_set files at g) at) + n
room_grows files at n f g some read more =
    let got = entry_read files at f some read in
    subst (λ o. room_of o ≤ room_of (slice_get (slice_set files at g) at) + n) (sym got)
    (subst (λ o. f.room ≤ room_of o + n) (sym (get_set files at f g got)) more)

-- Which files are open

pub sets_open : (files : List Entry) (at : ℕ) (f g : Entry) (b : Bool) → IsSome (name_of (slice_get files at)) → f ≡ get_or files at f → g.is_open ≡ b → SetsOpen at b files (slice_set files at g)
sets_open files at f g b some read is = record {
  own = ap is_open_of (get_set files at f g (entry_read files at f some read)) ∙ is;
  others = λ j other. ap is_open_of (get_set_other files at j g other);
}

pub stays_open : (files : List Entry) (at : ℕ) (f g : Entry) → IsSome (name_of (slice_get files at)) → f ≡ get_or files at f → g.is_open ≡ f.is_open → SameOpen files (slice_set files at g)
stays_open files at f g some read same j = ⊎_elim
    (λ own. subst (λ k. is_open_of (slice_get (slice_set files at g) k) ≡ is_open_of (slice_get files k)) (sym own.1)
    ((sets_open files at f g f.is_open some read same).own ∙ sym (ap is_open_of (entry_read files at f some read))))
    (λ other. (sets_open files at f g f.is_open some read same).others j other.1)
    (eqb_tells j at)

-- A name that no file has

pub none_tail : (d : Entry) (rest : List Entry) (name : List ℕ) (t : Bool) → bytes_eq d.name name ≡ t → disk_of (d ∷ rest) name ≡ None → (t ≡ false) × (disk_of rest name ≡ None)
none_tail d rest name true is none = absurd (cc (sym (ap (λ b. cond b (Some d.state) (disk_of rest name)) is) ∙ none))
none_tail d rest name false is none = (refl, sym (ap (λ b. cond b (Some d.state) (disk_of rest name)) is) ∙ none)

pub apart_at : (files : List Entry) (name : List ℕ) (i : ℕ) (f : Entry) → disk_of files name ≡ None → slice_get files i ≡ Some f → bytes_eq f.name name ≡ false
apart_at [] name i f none got = absurd (cc got)
apart_at (d ∷ rest) name zero f none got =
    sym (ap (λ e. bytes_eq e.name name) (same_entry d f got)) ∙ (none_tail d rest name (bytes_eq d.name name) refl none).0
apart_at (d ∷ rest) name (suc i) f none got = apart_at rest name i f (none_tail d rest name (bytes_eq d.name name) refl none).1 got

-- The file at a place is the disk's file of its name

found_at : (d : Entry) (rest : List Entry) (name : List ℕ) (s : Option File) → bytes_eq d.name name ≡ false → disk_of rest name ≡ s → disk_of (d ∷ rest) name ≡ s
found_at d rest name s apart here = ap (λ b. cond b (Some d.state) (disk_of rest name)) apart ∙ here

pub found : (files : List Entry) (i : ℕ) (f : Entry) → IsSound files → slice_get files i ≡ Some f → disk_of files f.name ≡ Some f.state
found [] i f sound got = absurd (cc got)
found (d ∷ rest) zero f sound got =
    ap (λ b. cond b (Some d.state) (disk_of rest f.name)) (sym (ap (λ e. bytes_eq e.name f.name) (sym (same_entry d f got))) ∙ itself f.name) ∙ ap (λ e. Some e.state) (same_entry d f got)
found (d ∷ rest) (suc i) f sound got =
    found_at d rest f.name (Some f.state) (turned f.name d.name (apart_at rest d.name i f sound.0 got)) (found rest i f sound.2 got)

-- The table with another file at a place, of the same name

twice : (b : Bool) (x y z : Option File) → cond b x z ≡ cond b x (cond b y z)
twice true x y z = refl
twice false x y z = refl

swapped : (t u : Bool) (x y z : Option File) → (t ≡ true → u ≡ false) → cond t x (cond u y z) ≡ cond u y (cond t x z)
swapped true true x y z h = absurd (true≢false (h refl))
swapped true false x y z h = refl
swapped false u x y z h = refl

pub disk_set : (files : List Entry) (i : ℕ) (f g : Entry) → IsSound files → slice_get files i ≡ Some f → g.name ≡ f.name
    → (name : List ℕ) → disk_of (slice_set files i g) name ≡ cond (bytes_eq f.name name) (Some g.state) (disk_of files name)
disk_set [] i f g sound got same name = absurd (cc got)
disk_set (d ∷ rest) zero f g sound got same name =
    ap (λ n. cond (bytes_eq n name) (Some g.state) (disk_of rest name)) same
    ∙ twice (bytes_eq f.name name) (Some g.state) (Some d.state) (disk_of rest name)
    ∙ ap (λ e. cond (bytes_eq f.name name) (Some g.state) (cond (bytes_eq e.name name) (Some d.state) (disk_of rest name))) (sym (same_entry d f got))
disk_set (d ∷ rest) (suc i) f g sound got same name =
    ap (cond (bytes_eq d.name name) (Some d.state)) (disk_set rest i f g sound.2 got same name)
    ∙ swapped (bytes_eq d.name name) (bytes_eq f.name name) (Some d.state) (Some g.state) (disk_of rest name)
    (λ own. sym (ap (bytes_eq f.name) (same_name d.name name own)) ∙ apart_at rest d.name i f sound.0 got)

pub none_set : (files : List Entry) (i : ℕ) (f g : Entry) (name : List ℕ) → disk_of files name ≡ None → slice_get files i ≡ Some f → g.name ≡ f.name → disk_of (slice_set files i g) name ≡ None
none_set [] i f g name none got same = absurd (cc got)
none_set (d ∷ rest) zero f g name none got same =
    let parts = none_tail d rest name (bytes_eq d.name name) refl none in
    found_at g rest name None (ap (λ n. bytes_eq n name) (same ∙ ap (λ e. e.name) (sym (same_entry d f got))) ∙ parts.0) parts.1
none_set (d ∷ rest) (suc i) f g name none got same =
    let parts = none_tail d rest name (bytes_eq d.name name) refl none in
    found_at d (slice_set rest i g) name None parts.0 (none_set rest i f g name parts.1 got same)

pub sound_set : (files : List Entry) (i : ℕ) (f g : Entry) → IsSound files → slice_get files i ≡ Some f → g.name ≡ f.name
    → (f.state.synced ≤ length f.state.written → g.state.synced ≤ length g.state.written) → IsSound (slice_set files i g)
sound_set [] i f g sound got same keeps = absurd (cc got)
sound_set (d ∷ rest) zero f g sound got same keeps = (
  subst (λ n. disk_of rest n ≡ None) (ap (λ e. e.name) (same_entry d f got) ∙ sym same) sound.0,
  keeps (subst (λ e. e.state.synced ≤ length e.state.written) (same_entry d f got) sound.1),
  sound.2,
)
sound_set (d ∷ rest) (suc i) f g sound got same keeps =
    (none_set rest i f g d.name sound.0 got same, sound.1, sound_set rest i f g sound.2 got same keeps)

-- The table with one file more

pub disk_more : (files : List Entry) (e : Entry) (name : List ℕ) → disk_of files e.name ≡ None → disk_of (files ++ e ∷ []) name ≡ cond (bytes_eq e.name name) (Some e.state) (disk_of files name)
disk_more [] e name none = refl
disk_more (d ∷ rest) e name none =
    let parts = none_tail d rest e.name (bytes_eq d.name e.name) refl none in
    ap (cond (bytes_eq d.name name) (Some d.state)) (disk_more rest e name parts.1)
    ∙ swapped (bytes_eq d.name name) (bytes_eq e.name name) (Some d.state) (Some e.state) (disk_of rest name)
    (λ own. turned name e.name (sym (ap (λ n. bytes_eq n e.name) (same_name d.name name own)) ∙ parts.0))

pub sound_more : (files : List Entry) (e : Entry) → IsSound files → disk_of files e.name ≡ None → e.state.synced ≤ length e.state.written → IsSound (files ++ e ∷ [])
sound_more [] e sound none fits = (refl, fits, tt)
sound_more (d ∷ rest) e sound none fits =
    let parts = none_tail d rest e.name (bytes_eq d.name e.name) refl none in
    (disk_more rest e d.name parts.1 ∙ ap (λ b. cond b (Some e.state) (disk_of rest d.name)) (turned d.name e.name parts.0) ∙ sound.0, sound.1, sound_more rest e sound.2 parts.1 fits)

pub get_more : {X : Type 0} → (files : List X) (e : X) → slice_get (files ++ e ∷ []) (length files) ≡ Some e
get_more [] e = refl
get_more (d ∷ rest) e = get_more rest e

pub get_more_other : {X : Type 0} → (files : List X) (e : X) (j : ℕ) (f : X) → slice_get files j ≡ Some f → slice_get (files ++ e ∷ []) j ≡ Some f
get_more_other [] e j f got = absurd (cc got)
get_more_other (d ∷ rest) e zero f got = got
get_more_other (d ∷ rest) e (suc j) f got = get_more_other rest e j f got
