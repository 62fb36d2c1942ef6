-- Why a call of a journal fails: what it answers where a call below it was refused.
use Rattle.std.proofs.Common.{◌≡◌, ⊎_elim, ℕ, Result, Ok, Err, refl, sym, ap, subst, ◌∙◌, arith}
use Rattle.std.specs.Prelude.{◌≢◌, IsErrOf}
use Rattle.std.specs.Result.{IsErrAnd}
use Rattle.std.proofs.lemmas.Result.{err_from_is_err_and}
use Rattle.disk_files.specs.Faults.{HasCause}
use Rattle.disk_files.specs.declared.dir.DirError.{DirError}
use Rattle.disk_files.specs.declared.dir.DirError.TheVariants as dir
use Rattle.file_pieces.specs.Adding.{HasPieceCause}
use Rattle.file_pieces.specs.declared.error.PieceError.{PieceError}
use Rattle.file_pieces.specs.declared.error.PieceError.TheVariants as piece
use Rattle.journal_files.specs.Faults.{HasReason, dir_error, piece_error}
use Rattle.journal_files.specs.declared.error.JournalError.{JournalError}
use Rattle.journal_files.specs.declared.error.JournalError.TheVariants as refusal

-- what a `?` answers
pub answered : {T E : Type 0} (e : E) (r : Result T E) → IsErrAnd r (λ y. y ≡ e) → r ≡ Err e
answered e r is = let p = err_from_is_err_and r is in p.1 ∙ ap Err p.2

err_as : {T U E : Type 0} {e f : E} → IsErrOf {T = T} (Err e) f → IsErrOf {T = U} (Err e) f
err_as is = ap Err (cc is)

pub reason_ok : {T E : Type 0} (a b : ℕ) (x : T) (fault : E) → b ≡ a → HasReason a b (Ok x) fault
reason_ok a b x fault same = record { later = omega (arith, same); passed = same; failed = λ no. absurd (cc no); others = λ no. same }

-- a call of the journal's own was refused, behind calls that passed
pub reason_err : {T U E : Type 0} (a b c : ℕ) (e fault : E) (r : Result U E) → b ≡ a → HasReason {T = T} b c (Err e) fault → r ≡ Err e → HasReason a c r fault
reason_err {U = U} {E = E} a b c e fault r same is answer = subst (λ (q : Result U E). HasReason a c q fault) (sym answer) (subst (λ (n : ℕ). HasReason {T = U} n c (Err e) fault) same (record {
  later = is.later;
  passed = tt;
  failed = λ yes. is.failed (err_as yes);
  others = λ no. is.others (λ yes. no (err_as yes));
}))

-- ---- a refusal of the folder

-- it is no damage, and no want of a number
pub dir_undamaged : (e : DirError) → dir_error e ≢ refusal.Damaged
dir_undamaged dir.Memory is = cc is
dir_undamaged dir.Fault is = cc is
dir_undamaged dir.NoSuchFile is = cc is
dir_undamaged dir.NameTaken is = cc is

pub dir_numbered : (e : DirError) → dir_error e ≢ refusal.LastGeneration
dir_numbered dir.Memory is = cc is
dir_numbered dir.Fault is = cc is
dir_numbered dir.NoSuchFile is = cc is
dir_numbered dir.NameTaken is = cc is

-- want of memory is only that
pub dir_memory : {T : Type 0} (e : DirError) → dir_error e ≡ refusal.Memory → IsErrOf {T = T} (Err e) dir.Memory
dir_memory dir.Memory is = refl
dir_memory dir.Fault is = absurd (cc is)
dir_memory dir.NoSuchFile is = absurd (cc is)
dir_memory dir.NameTaken is = absurd (cc is)

-- where only the device's fault is answered
pub fault_only : {T : Type 0} (e : DirError) → IsErrOf {T = T} (Err e) dir.Fault → dir_error e ≡ refusal.Fault
fault_only e only = let is : e ≡ dir.Fault = cc only in ap dir_error is

-- which is no want of memory
pub fault_remembered : {T : Type 0} (e : DirError) → IsErrOf {T = T} (Err e) dir.Fault → dir_error e ≢ refusal.Memory
fault_remembered e only is = let q = sym is ∙ fault_only e only in cc q

refused : {T U : Type 0} (a b : ℕ) (e : DirError) → HasCause {T = T} a b (Err e) → HasReason {T = U} a b (Err (dir_error e)) refusal.Fault
refused a b dir.Memory c = record { later = c.later; passed = tt; failed = λ yes. absurd (cc yes); others = λ no. c.memory refl }
refused a b dir.Fault c = record { later = c.later; passed = tt; failed = λ yes. ⊎_elim (λ memory. absurd (cc memory)) (λ rises. rises) c.refused; others = λ no. absurd (no refl) }
refused a b dir.NoSuchFile c = record { later = c.later; passed = tt; failed = λ yes. ⊎_elim (λ memory. absurd (cc memory)) (λ rises. rises) c.refused; others = λ no. absurd (no refl) }
refused a b dir.NameTaken c = record { later = c.later; passed = tt; failed = λ yes. ⊎_elim (λ memory. absurd (cc memory)) (λ rises. rises) c.refused; others = λ no. absurd (no refl) }

-- behind calls that passed
pub reason_dir : {T U : Type 0} (a m b : ℕ) (e : DirError) (r : Result U JournalError) → m ≡ a → HasCause {T = T} m b (Err e) → r ≡ Err (dir_error e) → HasReason a b r refusal.Fault
reason_dir {U = U} a m b e r passed c answer =
    subst (λ (n : ℕ). HasReason n b r refusal.Fault) passed (subst (λ (q : Result U JournalError). HasReason m b q refusal.Fault) (sym answer) (refused m b e c))

-- ---- a refused copy

copied : {T U : Type 0} (a b : ℕ) (e : PieceError) → HasPieceCause {T = T} a b (Err e) → HasReason {T = U} a b (Err (piece_error e)) refusal.Fault
copied a b piece.Fault c = record { later = c.later; passed = tt; failed = λ yes. c.failed refl; others = λ no. absurd (no refl) }
copied a b piece.Short c = record { later = c.later; passed = tt; failed = λ yes. absurd (cc yes); others = λ no. c.short refl }

-- behind calls that passed
pub reason_copy : {T U : Type 0} (a m b : ℕ) (e : PieceError) (r : Result U JournalError) → m ≡ a → HasPieceCause {T = T} m b (Err e) → r ≡ Err (piece_error e) → HasReason a b r refusal.Fault
reason_copy {U = U} a m b e r passed c answer =
    subst (λ (n : ℕ). HasReason n b r refusal.Fault) passed (subst (λ (q : Result U JournalError). HasReason m b q refusal.Fault) (sym answer) (copied m b e c))

-- it came from a file that was too short, if it is damage
pub was_short : {T : Type 0} (e : PieceError) → piece_error e ≡ refusal.Damaged → IsErrOf {T = T} (Err e) piece.Short
was_short piece.Fault is = absurd (cc is)
was_short piece.Short is = refl

-- and it is no want of memory, nor of a number
pub copy_remembered : (e : PieceError) → piece_error e ≢ refusal.Memory
copy_remembered piece.Fault is = cc is
copy_remembered piece.Short is = cc is

pub copy_numbered : (e : PieceError) → piece_error e ≢ refusal.LastGeneration
copy_numbered piece.Fault is = cc is
copy_numbered piece.Short is = cc is
