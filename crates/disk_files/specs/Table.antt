-- A folder in memory: its files.
use Rattle.std.specs.Prelude.{◌≡◌, ◌≢◌, ℕ, ◌≤◌, Bool, false, List, [], ◌∷◌, length, Option, Some, None, cond, slice_get, slice_set, filter, map, not}
use Rattle.std.specs.Str.{bytes_eq}
use Rattle.disk_files.specs.Disk.{File, Disk}
use Rattle.disk_files.specs.Entry.{Entry}

-- the disk with these files
abbrev pub disk_of : List Entry → Disk
disk_of [] name = None
disk_of (e ∷ rest) name = cond (bytes_eq e.name name) (Some e.state) (disk_of rest name)

-- no two files share a name, and of each file no more is synced than was written
abbrev pub IsSound : List Entry → Type 0
IsSound [] = Unit {0}
IsSound (e ∷ rest) = (disk_of rest e.name ≡ None) × (e.state.synced ≤ length e.state.written)
    × IsSound rest

-- the name of a file that is there: one that wasn't removed
abbrev pub name_of : Option Entry → Option (List ℕ)
name_of None = None
name_of (Some e) = cond e.state.is_removed None (Some e.name)

-- whether a file is open, where it is there
abbrev pub is_open_of : Option Entry → Bool
is_open_of None = false
is_open_of (Some e) = e.is_open

-- the name of a file that may be used: one that is there and open
abbrev pub opened_of : Option Entry → Option (List ℕ)
opened_of e = cond (is_open_of e) (name_of e) None

-- for how many more bytes a file has room
abbrev pub room_of : Option Entry → ℕ
room_of None = 0
room_of (Some e) = e.room

-- the file at this place changed so, and keeps its name
pub record ChangesAt (at : ℕ) (how : File → File) (old new : List Entry) : Type 0 where
  pub entry : Entry
  pub room : ℕ
  pub is_open : Bool
  pub found : slice_get old at ≡ Some entry
  pub set : new
      ≡ slice_set old at (record {
        name = entry.name;
        state = how entry.state;
        room = room;
        is_open = is_open;
      })

-- the same files are open
abbrev pub SameOpen : List Entry → List Entry → Type 0
SameOpen old new = (j : ℕ) → is_open_of (slice_get new j) ≡ is_open_of (slice_get old j)

-- the file at this place is open, or isn't, and of the others those that were
pub record SetsOpen (at : ℕ) (is_open : Bool) (old new : List Entry) : Type 0 where
  pub own : is_open_of (slice_get new at) ≡ is_open
  pub others : (j : ℕ) → j ≢ at → is_open_of (slice_get new j) ≡ is_open_of (slice_get old j)

-- the names of the files that weren't removed
abbrev pub names_there : List Entry → List (List ℕ)
names_there files = map (λ e. e.name) (filter (λ e. not e.state.is_removed) files)
