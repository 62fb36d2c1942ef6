-- What a call answers where a call below it was refused.
use Rattle.std.proofs.Common.{◌≡◌, ℕ, ⊎_elim, inl, inr, Result, Ok, Err, refl, sym, ap, subst, ◌∙◌, arith}
use Rattle.std.specs.Prelude.{◌≢◌, ◌⊎◌, OnErr, IfOk}
use Rattle.std.specs.Result.{IsErrAnd}
use Rattle.std.proofs.lemmas.Result.{err_from_is_err_and}
use Rattle.disk_files.specs.Faults.{HasCause as HasDirCause}
use Rattle.disk_files.specs.declared.dir.DirError.{DirError}
use Rattle.disk_files.specs.declared.dir.DirError.TheVariants as dir
use Rattle.sink_series.specs.Faults.{HasCause, fault_of}
use Rattle.sink_series.specs.declared.fault.SeriesFault.{SeriesFault}
use Rattle.sink_series.specs.declared.fault.SeriesFault.TheVariants as series

-- what a `?` answers
pub told : {T : Type 0} (e : SeriesFault) (r : Result T SeriesFault) → IsErrAnd r (λ y. y ≡ e) → r ≡ Err e
told e r is = let p = err_from_is_err_and r is in p.1 ∙ ap Err p.2

-- an error has no value
pub no_value : {T : Type 0} (e : SeriesFault) (r : Result T SeriesFault) (P : T → Type 0) → r ≡ Err e → IfOk r P
no_value {T = T} e r P is = subst (λ (q : Result T SeriesFault). IfOk q P) (sym is) tt

refused : {T U : Type 0} (a b : ℕ) (d : DirError) → HasDirCause {T = T} a b (Err d) → HasCause {T = U} a b (Err (fault_of d))
refused a b dir.Memory h = record { later = h.later; failed = λ yes. absurd (cc yes) }
refused a b dir.Fault h = record { later = h.later; failed = λ yes. ⊎_elim (λ memory. absurd (cc memory)) (λ rises. rises) h.refused }
refused a b dir.NoSuchFile h = record { later = h.later; failed = λ yes. ⊎_elim (λ memory. absurd (cc memory)) (λ rises. rises) h.refused }
refused a b dir.NameTaken h = record { later = h.later; failed = λ yes. ⊎_elim (λ memory. absurd (cc memory)) (λ rises. rises) h.refused }

-- calls that counted nothing, a refusal of the folder, and calls that counted nothing
pub refused_cause : {T U : Type 0} (a b k l : ℕ) (d : DirError) (r : Result U SeriesFault) → HasDirCause {T = T} b k (Err d) → b ≡ a → l ≡ k → r ≡ Err (fault_of d) → HasCause a l r
refused_cause {U = U} a b k l d r h before behind is =
    subst (λ (q : Result U SeriesFault). HasCause a l q) (sym is) (subst (λ (n : ℕ). HasCause {T = U} n l (Err (fault_of d))) before (subst (λ (n : ℕ). HasCause {T = U} b n (Err (fault_of d))) (sym behind) (refused b k d h)))

-- want of memory, behind calls that counted nothing
pub memory_cause : {T : Type 0} (a b : ℕ) (r : Result T SeriesFault) → b ≡ a → r ≡ Err series.Memory → HasCause a b r
memory_cause {T = T} a b r same is = subst (λ (q : Result T SeriesFault). HasCause a b q) (sym is) (record { later = omega (arith, same); failed = λ yes. absurd (cc yes) })

-- all went well
pub ok_cause : {T : Type 0} (a b : ℕ) (x : T) → b ≡ a → HasCause a b (Ok x)
ok_cause a b x same = record { later = omega (arith, same); failed = λ yes. absurd (cc yes) }

-- the answer is the one of a call behind others
pub cause_behind : {T : Type 0} (a b k : ℕ) (r : Result T SeriesFault) → b ≡ a → HasCause b k r → HasCause a k r
cause_behind a b k r before h = subst (λ (n : ℕ). HasCause n k r) before h

-- the error is the one of a call
pub cause_of : {T U : Type 0} (a b : ℕ) (e : SeriesFault) (r : Result U SeriesFault) → HasCause {T = T} a b (Err e) → r ≡ Err e → HasCause a b r
cause_of {U = U} a b e r h is = subst (λ (q : Result U SeriesFault). HasCause a b q) (sym is) (record { later = h.later; failed = λ yes. h.failed (let same : e ≡ series.Fault = cc yes in ap Err same) })

-- a refusal of the folder is want of memory, or a fault
answers : (d : DirError) → (fault_of d ≡ series.Memory) ⊎ (fault_of d ≡ series.Fault)
answers dir.Memory = inl refl
answers dir.Fault = inr refl
answers dir.NoSuchFile = inr refl
answers dir.NameTaken = inr refl

pub refused_only : {T : Type 0} (d : DirError) (r : Result T SeriesFault) → r ≡ Err (fault_of d) → OnErr r ((r ≡ Err series.Memory) ⊎ (r ≡ Err series.Fault))
refused_only {T = T} d r is = subst (λ (q : Result T SeriesFault). OnErr q ((q ≡ Err series.Memory) ⊎ (q ≡ Err series.Fault))) (sym is) (⊎_elim (λ m. inl (ap Err m)) (λ f. inr (ap Err f)) (answers d))

pub memory_only : {T : Type 0} (r : Result T SeriesFault) → r ≡ Err series.Memory → OnErr r ((r ≡ Err series.Memory) ⊎ (r ≡ Err series.Fault))
memory_only {T = T} r is = subst (λ (q : Result T SeriesFault). OnErr q ((q ≡ Err series.Memory) ⊎ (q ≡ Err series.Fault))) (sym is) (inl refl)

pub never : {T : Type 0} (e f : SeriesFault) (r : Result T SeriesFault) → r ≡ Err e → e ≢ f → r ≢ Err f
never e f r is differs at = (let same : Err e ≡ Err f = sym is ∙ at in differs (cc same))

pub refused_never : {T : Type 0} (d : DirError) (r : Result T SeriesFault) → r ≡ Err (fault_of d) → r ≢ Err series.Failed
refused_never d r is = never (fault_of d) series.Failed r is (λ e. ⊎_elim (λ m. absurd (cc (sym m ∙ e))) (λ f. absurd (cc (sym f ∙ e))) (answers d))

-- a value is no error
pub ok_never : {T : Type 0} (x : T) (e : SeriesFault) → Ok x ≢ Err e
ok_never x e is = absurd (cc is)

-- want of memory is no other error
pub memory_never : {T : Type 0} (r : Result T SeriesFault) → IsErrAnd r (λ y. y ≡ series.Memory) → (r ≢ Err series.Failed) × (r ≢ Err series.Fault) × (r ≢ Err series.LastNumber)
memory_never r is = let m = told series.Memory r is in (
  never series.Memory series.Failed r m (λ e. cc e),
  never series.Memory series.Fault r m (λ e. cc e),
  never series.Memory series.LastNumber r m (λ e. cc e),
)

-- nor is a fault
pub fault_never : {T U : Type 0} (d : DirError) (e : SeriesFault) (given : Result T DirError) (r : Result U SeriesFault) → given ≡ Err d → given ≡ Err dir.Fault → e ≡ fault_of d → r ≡ Err e
    → (r ≢ Err series.Failed) × (r ≢ Err series.Memory) × (r ≢ Err series.LastNumber)
fault_never d e given r told_so fault is answered_so =
    let of : d ≡ dir.Fault = cc (told_so, fault) in
    let all : r ≡ Err series.Fault = answered_so ∙ ap Err (is ∙ ap fault_of of) in (
      never series.Fault series.Failed r all (λ q. cc q),
      never series.Fault series.Memory r all (λ q. cc q),
      never series.Fault series.LastNumber r all (λ q. cc q),
    )
