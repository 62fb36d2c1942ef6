-- The names that a folder in memory lists are those that read.
use Rattle.std.proofs.Common.{◌≡◌, ◌⊎◌, inl, inr, ⊎_elim, ℕ, zero, suc, cond, not, Bool, true, false, List, [], ◌∷◌, map, filter, Some, None, IsSome, Contains, refl, sym, ◌∙◌, ap, subst, arith}
use Rattle.std.specs.Str.{bytes_eq}
use Rattle.std.specs.List.{IsDistinct, AllByRecursion}
use Rattle.disk_files.specs.Disk.{File, reads, read_of}
use Rattle.disk_files.specs.Entry.{Entry}
use Rattle.disk_files.specs.Table.{disk_of, IsSound, names_there}
use Rattle.disk_files.specs.Past.{history_of}
use Rattle.disk_files.specs.Moments.{now}
use Rattle.disk_files.specs.Readable.{now_is}
use Rattle.disk_files.proofs.Table.{same_name, itself, turned, none_tail}

-- with the first file's name in front, if it is there
abbrev with_first : Bool → Entry → List Entry → List (List ℕ)
with_first b d rest = map (λ e. e.name) (cond b (d ∷ filter (λ e. not e.state.is_removed) rest) (filter (λ e. not e.state.is_removed) rest))

behind : (b : Bool) (d : Entry) (rest : List Entry) (name : List ℕ) → Contains (names_there rest) name → Contains (with_first b d rest) name
behind true d rest name found = (suc found.0, omega (arith, found.1), found.2)
behind false d rest name found = found

by_first : (b : Bool) (d : Entry) (rest : List Entry) (name : List ℕ) → Contains (with_first b d rest) name → ((b ≡ true) × (d.name ≡ name)) ⊎ Contains (names_there rest) name
by_first true d rest name (zero, lt, is) = inl (refl, is)
by_first true d rest name (suc k, lt, is) = inr (k, omega (arith, lt), is)
by_first false d rest name found = inr found

reads_first : (s : File) → not s.is_removed ≡ true → IsSome (read_of (Some s))
reads_first s left = by s.is_removed left
  where
    by : (b : Bool) → not b ≡ true → IsSome (cond b None (Some s.written))
    by true is = absurd (cc is)
    by false is = refl

first_there : (s : File) → IsSome (read_of (Some s)) → not s.is_removed ≡ true
first_there s some = by s.is_removed some
  where
    by : (b : Bool) → IsSome (cond b None (Some s.written)) → not b ≡ true
    by true some = absurd (cc some)
    by false some = refl

-- a file behind another has another name
other_reads : (d : Entry) (rest : List Entry) (name : List ℕ) (b : Bool) → bytes_eq d.name name ≡ b → disk_of rest d.name ≡ None → IsSome (read_of (disk_of rest name))
    → IsSome (read_of (cond b (Some d.state) (disk_of rest name)))
other_reads d rest name true is none some = absurd (cc (subst (λ s. IsSome (read_of s)) (ap (disk_of rest) (sym (same_name d.name name is)) ∙ none) some))
other_reads d rest name false is none some = some

pub listed_reads : (files : List Entry) (name : List ℕ) → IsSound files → Contains (names_there files) name → IsSome (read_of (disk_of files name))
listed_reads [] name sound found = absurd (omega (arith, found.1))
listed_reads (d ∷ rest) name sound found = ⊎_elim
    (λ first. subst (λ b. IsSome (read_of (cond b (Some d.state) (disk_of rest name)))) (sym (ap (bytes_eq d.name) (sym first.1) ∙ itself d.name)) (reads_first d.state first.0))
    (λ more. other_reads d rest name (bytes_eq d.name name) refl sound.0 (listed_reads rest name sound.2 more))
    (by_first (not d.state.is_removed) d rest name found)

first_listed : (d : Entry) (rest : List Entry) (name : List ℕ) (b : Bool) → b ≡ true → d.name ≡ name → Contains (with_first b d rest) name
first_listed d rest name true is same = (0, omega arith, same)
first_listed d rest name false is same = absurd (cc is)

reads_listed_at : (d : Entry) (rest : List Entry) (name : List ℕ) (b : Bool) → bytes_eq d.name name ≡ b → (IsSome (read_of (disk_of rest name)) → Contains (names_there rest) name)
    → IsSome (read_of (cond b (Some d.state) (disk_of rest name))) → Contains (names_there (d ∷ rest)) name
reads_listed_at d rest name true is next some = first_listed d rest name (not d.state.is_removed) (first_there d.state some) (same_name d.name name is)
reads_listed_at d rest name false is next some = behind (not d.state.is_removed) d rest name (next some)

pub reads_listed : (files : List Entry) (name : List ℕ) → IsSome (read_of (disk_of files name)) → Contains (names_there files) name
reads_listed [] name some = absurd (cc some)
reads_listed (d ∷ rest) name some = reads_listed_at d rest name (bytes_eq d.name name) refl (reads_listed rest name) some

-- Each name once

apart_first : (b : Bool) (name : List ℕ) (d : Entry) (rest : List Entry) → bytes_eq name d.name ≡ false → AllByRecursion (λ n. bytes_eq name n ≡ false) (names_there rest)
    → AllByRecursion (λ n. bytes_eq name n ≡ false) (with_first b d rest)
apart_first true name d rest first others = (first, others)
apart_first false name d rest first others = others

all_apart : (files : List Entry) (name : List ℕ) → disk_of files name ≡ None → AllByRecursion (λ n. bytes_eq name n ≡ false) (names_there files)
all_apart [] name none = tt
all_apart (d ∷ rest) name none =
    let parts = none_tail d rest name (bytes_eq d.name name) refl none in
    apart_first (not d.state.is_removed) name d rest (turned d.name name parts.0) (all_apart rest name parts.1)

distinct_first : (b : Bool) (d : Entry) (rest : List Entry) → AllByRecursion (λ n. bytes_eq d.name n ≡ false) (names_there rest) → IsDistinct bytes_eq (names_there rest) → IsDistinct bytes_eq (with_first b d rest)
unfolding IsDistinct
distinct_first true d rest first others = (first, others)
distinct_first false d rest first others = others

pub distinct_names : (files : List Entry) → IsSound files → IsDistinct bytes_eq (names_there files)
unfolding IsDistinct
distinct_names [] sound = tt
distinct_names (d ∷ rest) sound = distinct_first (not d.state.is_removed) d rest (all_apart rest d.name sound.0) (distinct_names rest sound.2)

module _ (files : List Entry) (past : List (List Entry)) (name : List ℕ) where
  pub listed_now : IsSound files → Contains (names_there files) name → IsSome (reads (now (history_of files past)) name)
  listed_now sound found = subst (λ s. IsSome (read_of s)) (sym (now_is files past name)) (listed_reads files name sound found)

  pub now_listed : IsSome (reads (now (history_of files past)) name) → Contains (names_there files) name
  now_listed some = reads_listed files name (subst (λ s. IsSome (read_of s)) (now_is files past name) some)
