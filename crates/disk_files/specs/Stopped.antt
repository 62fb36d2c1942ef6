-- The steps of a stop over the table of a folder in memory.
use Rattle.std.specs.Prelude.{◌≡◌, ℕ, zero, suc, Bool, false, List, [], ◌∷◌, take, max, cond, filter, not, Option, Some, None}
use Rattle.disk_files.specs.Disk.{File, kept_file, unlinked}
use Rattle.disk_files.specs.Entry.{Entry}

-- a file after a stop that keeps of each all or only what is certainly there; a removed one stays
-- as it is
abbrev pub stopped : Bool → File → File
stopped least f = cond f.is_removed f
    (cond least (cond f.is_durable (kept_file (take f.synced f.written)) (unlinked f))
    (kept_file f.written))

-- the file of a name after such a stop, all of which counts as synced
abbrev pub left_state : Bool → Option File → Option File
left_state least None = None
left_state least (Some f) =
    cond f.is_removed None
    (cond least (cond f.is_durable (Some (kept_file (take f.synced f.written))) None)
    (Some (kept_file f.written)))

-- a file cut to so many bytes, and no more than what isn't synced
abbrev pub cut_to : ℕ → File → File
cut_to n f = record f { written = take (max n f.synced) f.written }

-- the first k files were stopped, and aren't open, and the others are as they were
abbrev pub StoppedTo : Bool → ℕ → List Entry → List Entry → Type 0
StoppedTo least zero before after = after ≡ before
StoppedTo least (suc k) [] after = after ≡ []
StoppedTo least (suc k) (e ∷ es) [] = ⊥
StoppedTo least (suc k) (e ∷ es) (a ∷ after) = (a.name ≡ e.name) × (a.state ≡ stopped least e.state)
    × StoppedTo least k es after × (a.is_open ≡ false)

-- the files that weren't removed
abbrev pub those_there : List Entry → List Entry
those_there files = filter (λ e. not e.state.is_removed) files
