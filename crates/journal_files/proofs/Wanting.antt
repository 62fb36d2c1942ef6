-- What an error answers: want of memory, one that is no fault, and that there is no value.
use Rattle.std.proofs.Common.{◌≡◌, ⊎_elim, ℕ, Option, Some, None, refl, Result, Ok, Err, sym, ap, subst, ◌∙◌, inl, inr, arith}
use Rattle.std.specs.Prelude.{◌≢◌, IfOk, OnOk, IsErrOf}
use Rattle.std.specs.Result.{IsErrAnd}
use Rattle.disk_files.specs.Faults.{HasCause}
use Rattle.disk_files.specs.Moments.{History, Elapses}
use Rattle.disk_files.specs.declared.dir.DirError.{DirError}
use Rattle.journal_files.specs.Faults.{HasReason}
use Rattle.journal_files.specs.declared.error.JournalError.{JournalError}
use Rattle.journal_files.specs.declared.error.JournalError.TheVariants as refusal

-- behind calls that counted nothing
pub reason_memory : {T : Type 0} (a b : ℕ) (r : Result T JournalError) → b ≡ a → r ≡ Err refusal.Memory → HasReason a b r refusal.Fault
reason_memory {T = T} a b r same answer =
    subst (λ (q : Result T JournalError). HasReason a b q refusal.Fault) (sym answer) (record { later = omega (arith, same); passed = tt; failed = λ yes. absurd (cc yes); others = λ no. same })

-- an error that is no fault, behind calls that counted nothing
pub reason_quiet : {T : Type 0} (a b : ℕ) (e : JournalError) (r : Result T JournalError) → b ≡ a → e ≢ refusal.Fault → r ≡ Err e → HasReason a b r refusal.Fault
reason_quiet {T = T} a b e r same quiet answer =
    subst (λ (q : Result T JournalError). HasReason a b q refusal.Fault) (sym answer) (record { later = omega (arith, same); passed = tt; failed = λ yes. absurd (quiet (cc yes)); others = λ no. same })

pub no_ok : {T E : Type 0} (e : E) (x : T) (r : Result T E) (P : Type 0) → r ≡ Err e → r ≡ Ok x → P
no_ok e x r P answer is = absurd (let q = sym answer ∙ is in cc q)

pub not_err : {T E : Type 0} (e f : E) (r : Result T E) → r ≡ Err e → (e ≡ f → ⊥) → r ≡ Err f → ⊥
not_err e f r answer differs is = differs (let q = sym answer ∙ is in cc q)

-- ---- what a `?` answers holds no value

pub err_no_ok : {T E : Type 0} (e : E) (r : Result T E) (P : Type 0) → IsErrAnd r (λ y. y ≡ e) → OnOk r P
err_no_ok e (Ok x) P is = absurd is
err_no_ok e (Err f) P is = tt

pub err_no_value : {T E : Type 0} (e : E) (r : Result T E) (P : T → Type 0) → IsErrAnd r (λ y. y ≡ e) → IfOk r P
err_no_value e (Ok x) P is = absurd is
err_no_value e (Err f) P is = tt

-- ---- which error it is

pub same_err : {T E : Type 0} (e f : E) → IsErrOf {T = T} (Err e) f → e ≡ f
same_err e f is = cc is

pub err_same : {T E : Type 0} (e f : E) (r : Result T E) → r ≡ Err e → IsErrOf r f → e ≡ f
err_same e f r answer is = let q = sym answer ∙ is in cc q

-- so it is of a call with another value
pub err_was : {T U E : Type 0} (e f : E) (r : Result T E) → r ≡ Err e → IsErrOf r f → IsErrOf {T = U} (Err e) f
err_was e f r answer is = ap Err (err_same e f r answer is)

pub ok_no_err : {T E : Type 0} (x : T) (e : E) → IsErrOf (Ok x) e → ⊥
ok_no_err x e is = cc is

pub memory_undamaged : refusal.Memory ≢ refusal.Damaged
memory_undamaged is = cc is

pub memory_numbered : refusal.Memory ≢ refusal.LastGeneration
memory_numbered is = cc is

pub memory_no_fault : refusal.Memory ≢ refusal.Fault
memory_no_fault is = cc is

pub damaged_no_fault : refusal.Damaged ≢ refusal.Fault
damaged_no_fault is = cc is

pub last_no_fault : refusal.LastGeneration ≢ refusal.Fault
last_no_fault is = cc is

pub last_remembered : refusal.LastGeneration ≢ refusal.Memory
last_remembered is = cc is

pub last_undamaged : refusal.LastGeneration ≢ refusal.Damaged
last_undamaged is = cc is

pub no_fault : {P : Type 0} (e f : JournalError) → e ≡ f → e ≡ refusal.Fault → f ≢ refusal.Fault → P
no_fault e f is fault other = absurd (other (sym is ∙ fault))

-- ---- a call of the folder

pub cause_err : {T U : Type 0} (a b c : ℕ) (e : DirError) (r : Result U DirError) → b ≡ a → HasCause {T = T} b c (Err e) → r ≡ Err e → HasCause a c r
cause_err {U = U} a b c e r same is answer = subst (λ (q : Result U DirError). HasCause a c q) (sym answer) (subst (λ (n : ℕ). HasCause {T = U} n c (Err e)) same (record {
  later = is.later;
  passed = tt;
  memory = λ yes. is.memory (ap Err (same_err e _ yes));
  refused = ⊎_elim (λ memory. inl (ap Err (same_err e _ memory))) (λ rises. inr rises) is.refused;
}))

pub cause_ok : {T : Type 0} (a b : ℕ) (x : T) → b ≡ a → HasCause a b (Ok x)
cause_ok a b x same = record { later = omega (arith, same); passed = same; memory = λ no. same; refused = tt }

-- nothing was asked of it
pub stood : (history : History) → Elapses history history
stood history = record { later = omega arith; past = λ t before name. refl; since = λ t after before. absurd (omega (arith, after, before)) }

-- ---- what is found is not nothing

pub some_no_none : {T E : Type 0} (P : Type 0) (x : T) (r : Result (Option T) E) → r ≡ Ok (Some x) → r ≡ Ok None → P
some_no_none P x r answer is = absurd (let q = sym answer ∙ is in cc q)
