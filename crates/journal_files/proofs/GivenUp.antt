-- A generation that isn't begun whole is given up.
use Rattle.std.proofs.Common.{◌≡◌, ◌≢◌, ◌⊎◌, ⊎_elim, ℕ, ◌+◌, ◌-◌, ◌^◌, ◌≤◌, Bool, true, false, cond, List, [], Option, Some, None, option_map, Err, refl, sym, ap, subst, ◌∙◌, arith, inl, inr}
use Rattle.std.specs.Prelude.{IsErrOf}
use Rattle.std.specs.Str.{bytes_eq}
use Rattle.std.proofs.lemmas.Option.{same_Some}
use Rattle.std.proofs.lemmas.Slice.Eq.{bytes_eq-Decides}
use Rattle.disk_files.specs.Disk.{File, Disk, Folder, MayStay, StopLeaves, SameDisk, Makes, Changes, with_bytes, new_file, unlinked, read_of}
use Rattle.disk_files.specs.Moments.{History, now, Elapses, LeavesOnly}
use Rattle.disk_files.specs.Faults.{HasCause, Rises}
use Rattle.disk_files.specs.declared.dir.DirError.{DirError}
use Rattle.disk_files.specs.declared.dir.DirError.TheVariants as dir
use Rattle.disk_files.specs.declared.dir.FileNo.{FileNo}
use Rattle.disk_files.proofs.Moments.{here, elsewhere, follows, goes_on, rests}
use Rattle.file_pieces.specs.Adding.{HasPieceCause}
use Rattle.file_pieces.specs.declared.error.PieceError.{PieceError}
use Rattle.file_pieces.specs.declared.error.PieceError.TheVariants as piece
use Rattle.journal_files.specs.Faults.{HasReason, dir_error}
use Rattle.journal_files.specs.Leftovers.{ReadsAs, IsGivenUp, LeavesAtMost}
use Rattle.journal_files.specs.Folders.{journal_name, IsNext}
use Rattle.journal_files.specs.Pieces.{HasNew, IsTakenAway, AnswersFor}
use Rattle.journal_files.specs.declared.error.JournalError.{JournalError}
use Rattle.journal_files.specs.declared.error.JournalError.TheVariants as refusal
use Rattle.journal_files.proofs.Names.{apart}

-- ---- what a stop leaves of it

-- there is no file, or it isn't certainly on the disk
abbrev pub IsYoung : Option File → Type 0
IsYoung None = Unit {0}
IsYoung (Some f) = f.is_durable ≡ false

gone_too : (o : Option File) (left : Option (List ℕ)) → IsYoung o → MayStay (option_map unlinked o) left → MayStay o left
gone_too None left young stays = stays
gone_too (Some f) None young stays = inr young
gone_too (Some f) (Some bytes) young stays = stays

gone_at : (b : Bool) (one own : Option File) (left : Option (List ℕ)) → (b ≡ true → one ≡ own) → IsYoung one → MayStay (cond b (option_map unlinked one) own) left → MayStay own left
gone_at true one own left same young stays = subst (λ (o : Option File). MayStay o left) (same refl) (gone_too one left young stays)
gone_at false one own left same young stays = stays

-- what a stop leaves once it was removed, one before it could leave
removed_leaves : (before after : Disk) (name : List ℕ) → IsYoung (before name) → Changes name unlinked before after → (folder : Folder) → StopLeaves after folder → StopLeaves before folder
removed_leaves before after name young changes folder leaves q =
    gone_at (bytes_eq name q) (before name) (before q) (folder q) (λ e. ap before ((bytes_eq-Decides name q).0 e)) young (subst (λ (o : Option File). MayStay o (folder q)) (changes q) (leaves q))

pub given_up : (P : Folder → Type 0) (a b : ℕ) (name : List ℕ) (old mid new : History) → LeavesOnly old mid P → Elapses mid new → IsYoung (now mid name) → IsTakenAway a b name (now mid) (now new) → LeavesOnly old new P
given_up P a b name old mid new so_far time young (inl changes) =
    goes_on old mid new P so_far time
    (λ folder leaves. so_far.each mid.moment so_far.later (omega arith) folder (removed_leaves (now mid) (now new) name young changes folder leaves))
given_up P a b name old mid new so_far time young (inr stays) = rests old mid new P so_far time stays.0

-- ---- what is there of it

pub new_young : (name bytes : List ℕ) (old new : Disk) → HasNew name bytes old new → IsYoung (new name)
new_young name bytes old new has = subst IsYoung (sym (here old new name _ has.made)) refl

reads_at : (b : Bool) (own : Option File) (f : File) → (b ≡ true → own ≡ None) → read_of (cond b (Some (unlinked f)) own) ≡ read_of own
reads_at true own f none = sym (ap read_of (none refl))
reads_at false own f none = refl

fails_again : (a b c : ℕ) → Rises a b → b ≤ c → Rises b c → (a + 2 ≤ c) ⊎ (2 ^ 64 - 1 ≤ c)
fails_again a b c (inl first) later (inl second) = inl (omega (arith, first, second))
fails_again a b c (inl first) later (inr greatest) = inr greatest
fails_again a b c (inr greatest) later second = inr (omega (arith, greatest, later))

-- it was removed again, or the device failed twice
pub new_given_up : (a b c : ℕ) (name bytes : List ℕ) (old mid new : Disk) → HasNew name bytes old mid → Rises a b → b ≤ c → IsTakenAway b c name mid new → IsGivenUp a c name old new
new_given_up a b c name bytes old mid new has first later (inl changes) =
    let file = with_bytes bytes new_file in
    let after = follows old mid new name (Some file) unlinked has.made changes in
    inl (λ q. ap read_of (after q) ∙ reads_at (bytes_eq name q) (old q) file (λ e. ap old (sym ((bytes_eq-Decides name q).0 e)) ∙ has.none))
new_given_up a b c name bytes old mid new has first later (inr stays) = inr (record {
  bytes = bytes;
  none = has.none;
  made = λ q. stays.0 q ∙ has.made q;
  why = inr (fails_again a b c first later stays.1);
})

-- the device failed in making it
pub not_made : (a b : ℕ) (name : List ℕ) (old new : Disk) → SameDisk new old ⊎ Makes name old new → IsGivenUp a b name old new
not_made a b name old new (inl same) = inl (λ q. ap read_of (same q))
not_made a b name old new (inr made) = inr (record { bytes = []; none = made.0; made = made.1; why = inl refl })

-- behind calls that changed nothing, and weren't refused
pub given_up_behind : (a b c : ℕ) (name : List ℕ) (old mid new : Disk) → b ≡ a → SameDisk mid old → IsGivenUp b c name mid new → IsGivenUp a c name old new
given_up_behind a b c name old mid new quiet same (inl reads_so) = inl (λ q. reads_so q ∙ ap read_of (same q))
given_up_behind a b c name old mid new quiet same (inr stays) = inr (record {
  bytes = stays.bytes;
  none = sym (same name) ∙ stays.none;
  made = λ q. stays.made q ∙ ap (cond (bytes_eq name q) (Some (with_bytes stays.bytes new_file))) (same q);
  why = ⊎_elim (λ none. inl none) (λ again. inr (subst (λ (n : ℕ). (n + 2 ≤ c) ⊎ (2 ^ 64 - 1 ≤ c)) quiet again)) stays.why;
})

-- other files
pub new_elsewhere : (name bytes other : List ℕ) (old new : Disk) → (other ≡ name → ⊥) → HasNew name bytes old new → new other ≡ old other
new_elsewhere name bytes other old new differ has = elsewhere old new name other _ has.made (apart name other (λ e. differ (sym e)))

pub others_stay : (a b : ℕ) (name other : List ℕ) (mid new : Disk) → (other ≡ name → ⊥) → IsTakenAway a b name mid new → new other ≡ mid other
others_stay a b name other mid new differ (inl changes) = elsewhere mid new name other _ changes (apart name other (λ e. differ (sym e)))
others_stay a b name other mid new differ (inr stays) = stays.0 other

-- an open file of another name is another one
pub other_file : (opened : FileNo → Option (List ℕ)) (file other : FileNo) (name own : List ℕ) → opened file ≡ Some name → opened other ≡ Some own → (own ≡ name → ⊥) → other ≢ file
other_file opened file other name own named is differ same = differ (same_Some _ _ (sym is ∙ ap opened same ∙ named))

-- ---- why it was given up

later_rises : (a b c : ℕ) → a ≤ b → Rises b c → Rises a c
later_rises a b c first (inl second) = inl (omega (arith, first, second))
later_rises a b c first (inr greatest) = inr greatest

pub reason_given : {T U : Type 0} (a b c : ℕ) (refused answer : JournalError) → HasReason {T = T} a b (Err refused) refusal.Fault → AnswersFor b c refused answer → HasReason {T = U} a c (Err answer) refusal.Fault
reason_given {U = U} a b c refused answer is given =
    ⊎_elim
    (λ same. subst (λ (e : JournalError). HasReason {T = U} a c (Err e) refusal.Fault) (sym same.0) (subst (λ (n : ℕ). HasReason {T = U} a n (Err refused) refusal.Fault) (sym same.1) (record {
      later = is.later;
      passed = tt;
      failed = λ yes. is.failed (ap Err (cc yes));
      others = λ no. is.others (λ yes. no (ap Err (cc yes)));
    })))
    (λ failed. subst (λ (e : JournalError). HasReason {T = U} a c (Err e) refusal.Fault) (sym failed.0) (record {
      later = omega (arith, is.later, given.later);
      passed = tt;
      failed = λ yes. later_rises a b c is.later failed.1;
      others = λ no. absurd (no refl);
    })) given.so

-- the answer is the refusal, unless it is a fault
pub given_as : (a b : ℕ) (refused answer e : JournalError) → AnswersFor a b refused answer → answer ≡ e → (e ≡ refusal.Fault → ⊥) → refused ≡ e
given_as a b refused answer e given is other = ⊎_elim (λ same. sym same.0 ∙ is) (λ failed. absurd (other (sym is ∙ failed.0))) given.so

pub rises_so : {T : Type 0} (a b : ℕ) (e : DirError) → e ≡ dir.Fault → HasCause {T = T} a b (Err e) → Rises a b
rises_so a b dir.Memory only c = absurd (cc only)
rises_so a b dir.Fault only c = ⊎_elim (λ memory. absurd (cc memory)) (λ rises. rises) c.refused
rises_so a b dir.NoSuchFile only c = absurd (cc only)
rises_so a b dir.NameTaken only c = absurd (cc only)

-- any refusal here is a fault
pub fault_so : (e : DirError) (refused : JournalError) → e ≡ dir.Fault → refused ≡ dir_error e → refused ≡ refusal.Fault
fault_so e refused only is = is ∙ ap dir_error only

pub copy_rises : {T : Type 0} (a m b : ℕ) (e : PieceError) → m ≡ a → HasPieceCause {T = T} m b (Err e) → (IsErrOf {T = T} (Err e) piece.Short → ⊥) → Rises a b
copy_rises a m b piece.Fault passed c whole = subst (λ (n : ℕ). Rises n b) passed (c.failed refl)
copy_rises a m b piece.Short passed c whole = absurd (whole refl)

-- what is left of a generation that was given up
pub at_most : (path : List ℕ) (number a b : ℕ) (old new : Disk) → IsGivenUp a b (journal_name path number) old new → LeavesAtMost path number a b old new
at_most path number a b old new (inl reads_so) = inl reads_so
at_most path number a b old new (inr stays) = inr (inl stays)

-- the file of the next generation was given up
pub left_next : (path : List ℕ) (number a b : ℕ) (old new : Disk) → IsNext path old number → IsGivenUp a b (journal_name path number) old new → ReadsAs old new ⊎ ((n : ℕ) × IsNext path old n × LeavesAtMost path n a b old new)
left_next path number a b old new next (inl reads_so) = inl reads_so
left_next path number a b old new next (inr stays) = inr (number, next, inr (inl stays))
