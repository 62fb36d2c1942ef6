-- The laws of what a stop may leave.
use Rattle.std.proofs.Common.{◌≡◌, inl, inr, ⊎_elim, ℕ, ◌≤◌, false, List, ◌++◌, length, take, drop, append_assoc, Option, Some, None, option_map, refl, sym, ◌∙◌, ap, arith, length-take}
use Rattle.std.proofs.lemmas.List.{take_all, take-append-le, take-append-drop}
use Rattle.disk_files.specs.Disk.{File, Folder, new_file, with_bytes, flushed, unlinked, kept_file, MayStay, StopLeaves, after_stop}

-- a front of a list with a front of another behind it is a front of the two
front_of : (w bytes : List ℕ) (n k : ℕ) (left : List ℕ) → k ≡ length left → take k (w ++ take n bytes) ≡ left → take k (w ++ bytes) ≡ left
front_of w bytes n k left len is =
    let whole : w ++ bytes ≡ (w ++ take n bytes) ++ drop n bytes = ap (λ b. w ++ b) (sym (take-append-drop n bytes)) ∙ sym (append_assoc w (take n bytes) (drop n bytes)) in
    let within : k ≤ length (w ++ take n bytes) = omega (arith, len, ap length is, length-take k (w ++ take n bytes)) in
    ap (take k) whole ∙ take-append-le k (w ++ take n bytes) (drop n bytes) within ∙ is

pub append_inside : (f : File) (bytes : List ℕ) (n : ℕ) (left : Option (List ℕ)) → f.synced ≤ length f.written → MayStay (Some (with_bytes (take n bytes) f)) left → MayStay (Some (with_bytes bytes f)) left
append_inside f bytes n None fits stays = stays
append_inside f bytes n (Some left) fits stays = (stays.0, front_of f.written bytes n (length left) left refl stays.1)

pub create_inside : (left : Option (List ℕ)) → MayStay None left → MayStay (Some new_file) left
create_inside None stays = inr refl
create_inside (Some left) stays = absurd (cc stays)

pub sync_inside : (f : File) (n : ℕ) (left : Option (List ℕ)) → f.synced ≤ n → MayStay (Some (record f { synced = n })) left → MayStay (Some f) left
sync_inside f n None more stays = stays
sync_inside f n (Some left) more stays = (omega (arith, more, stays.0), stays.1)

pub synced_inside : (f : File) (left : Option (List ℕ)) → f.synced ≤ length f.written → MayStay (Some (flushed f)) left → MayStay (Some f) left
synced_inside f None fits stays = ⊎_elim (λ gone. inl gone) (λ no. absurd (cc no)) stays
synced_inside f (Some left) fits stays = (omega (arith, fits, stays.0), stays.1)

pub remove_inside : (f : File) (left : Option (List ℕ)) → MayStay (Some f) left → MayStay (Some (unlinked f)) left
remove_inside f None stays = inl refl
remove_inside f (Some left) stays = stays

pub sync_keeps_all : (f : File) (left : Option (List ℕ)) → f.is_removed ≡ false → MayStay (Some (flushed f)) left → left ≡ Some f.written
sync_keeps_all f None there stays = absurd (⊎_elim (λ gone. cc (there, gone)) (λ no. cc no) stays)
sync_keeps_all f (Some left) there stays = ap Some (sym stays.1 ∙ take_all (length left) f.written stays.0)

settles_at : (o left : Option (List ℕ)) → MayStay (option_map kept_file o) left → left ≡ o
settles_at None left stays = stays
settles_at (Some bytes) None stays = absurd (⊎_elim (λ gone. cc gone) (λ no. cc no) stays)
settles_at (Some bytes) (Some left) stays = ap Some (sym stays.1 ∙ take_all (length left) bytes stays.0)

pub settles : (folder left : Folder) → StopLeaves (after_stop folder) left → (name : List ℕ) → left name ≡ folder name
settles folder left leaves name = settles_at (folder name) (left name) (leaves name)
