-- What the definitions of a stop come to.
use Rattle.std.specs.Prelude.{◌≡◌, ℕ, ◌≤◌, false, List, length, take, Option, Some, None}
use Rattle.disk_files.specs.Disk.{File, Folder, new_file, with_bytes, flushed, unlinked, MayStay, StopLeaves, after_stop}

-- A stop inside a call leaves nothing that a stop before it or after it couldn't leave: so the disk
-- before a call and the one after it speak of each moment inside the call.
pub record InsideCalls : Type 0 where
  -- some of the bytes of an append are out
  pub append : (f : File) (bytes : List ℕ) (n : ℕ) (left : Option (List ℕ))
      → f.synced ≤ length f.written → MayStay (Some (with_bytes (take n bytes) f)) left
      → MayStay (Some (with_bytes bytes f)) left
  -- a file is there or not yet
  pub create : (left : Option (List ℕ)) → MayStay None left → MayStay (Some new_file) left
  -- more than before is synced: so many bytes, or all and the file itself
  pub sync : (f : File) (n : ℕ) (left : Option (List ℕ)) → f.synced ≤ n
      → MayStay (Some (record f { synced = n })) left → MayStay (Some f) left
  pub synced : (f : File) (left : Option (List ℕ)) → f.synced ≤ length f.written
      → MayStay (Some (flushed f)) left → MayStay (Some f) left
  -- the file is still there, or gone
  pub remove : (f : File) (left : Option (List ℕ)) → MayStay (Some f) left
      → MayStay (Some (unlinked f)) left

-- after a sync a file that isn't removed is left, with all that was written to it
abbrev pub SyncKeeps : Type 0
SyncKeeps = (f : File) (left : Option (List ℕ)) → f.is_removed ≡ false
    → MayStay (Some (flushed f)) left → left ≡ Some f.written

-- what a stop left, a second stop leaves
abbrev pub StopSettles : Type 0
StopSettles = (folder left : Folder) → StopLeaves (after_stop folder) left → (name : List ℕ)
    → left name ≡ folder name
