-- A folder in memory as it reads is one that a stop may leave. (A law of the trait, so its proof
-- stands here.)
use Rattle.std.specs.Prelude.{◌≡◌, ℕ, suc, ◌≤◌, Bool, true, false, List, [], ◌∷◌, length, Some, None, cond, nat_lt}
use Rattle.std.specs.Str.{bytes_eq}
use Rattle.std.proofs.Common.{refl, sym, ap, subst, arith, inl}
use Rattle.std.proofs.lemmas.List.{take_all}
use Rattle.disk_files.specs.Disk.{File, SameDisk, MayStay, StopLeaves, reads, read_of}
use Rattle.disk_files.specs.Entry.{Entry}
use Rattle.disk_files.specs.Table.{disk_of, IsSound}
use Rattle.disk_files.specs.Past.{disk_then, history_of}
use Rattle.disk_files.specs.Moments.{now}

-- the disk now is that of the files
pub now_is : (files : List Entry) (past : List (List Entry))
    → SameDisk (now (history_of files past)) (disk_of files)
now_is files [] name = refl
now_is files (before ∷ earlier) name =
    let late : nat_lt (length earlier) (suc (length earlier)) ≡ true = grind arith in
    ap (λ b. cond b (disk_of files) (disk_then before earlier (suc (length earlier))) name) late

-- of a file all that reads may stay
stays : (f : File) (b : Bool) → f.is_removed ≡ b → f.synced ≤ length f.written
    → MayStay (Some f) (cond b None (Some f.written))
stays f true is fits = inl is
stays f false is fits = (fits, take_all (length f.written) f.written (omega arith))

stays_at : (d : Entry) (rest : List Entry) (name : List ℕ) (b : Bool)
    → d.state.synced ≤ length d.state.written
    → MayStay (disk_of rest name) (read_of (disk_of rest name))
    → MayStay (cond b (Some d.state) (disk_of rest name))
    (read_of (cond b (Some d.state) (disk_of rest name)))
stays_at d rest name true fits others = stays d.state d.state.is_removed refl fits
stays_at d rest name false fits others = others

all_stay : (files : List Entry) → IsSound files → StopLeaves (disk_of files) (reads (disk_of files))
all_stay [] sound name = refl
all_stay (d ∷ rest) sound name =
    stays_at d rest name (bytes_eq d.name name) sound.1 (all_stay rest sound.2 name)

-- of a sound folder in memory, what reads is what a stop may leave
pub reads_stay_of : (files : List Entry) (past : List (List Entry)) → IsSound files
    → StopLeaves (now (history_of files past)) (reads (now (history_of files past)))
reads_stay_of files past sound name =
    subst (λ s. MayStay s (read_of s)) (sym (now_is files past name)) (all_stay files sound name)
