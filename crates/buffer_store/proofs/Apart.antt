-- No two answers are one.
use Rattle.std.proofs.Common.{◌≡◌, ◌∙◌, sym}
use Rattle.std.specs.Prelude.{◌≢◌, Result, Ok, Err}
use Rattle.journal_files.specs.declared.error.JournalError.TheVariants as refusal
use Rattle.buffer_store.specs.declared.fault.BufferFault.TheVariants as fault

module _ {T E : Type 0} where
  pub ok_not_err : (x : T) (e : E) → ◌≡◌ {A = Result T E} (Ok x) (Err e) → ⊥
  ok_not_err x e q = cc q

  pub errs_apart : (e f : E) → e ≢ f → ◌≡◌ {A = Result T E} (Err e) (Err f) → ⊥
  errs_apart e f not q = not (cc q)

  pub not_both : (r : Result T E) (e f : E) → e ≢ f → r ≡ Err e → r ≡ Err f → ⊥
  not_both r e f not is q = errs_apart e f not (sym is ∙ q)

-- those of a buffer
pub memory_not_fault : fault.Memory ≢ fault.Fault
memory_not_fault e = cc e

pub memory_not_damaged : fault.Memory ≢ fault.Damaged
memory_not_damaged e = cc e

pub memory_not_last : fault.Memory ≢ fault.LastSerial
memory_not_last e = cc e

pub fault_not_damaged : fault.Fault ≢ fault.Damaged
fault_not_damaged e = cc e

pub fault_not_last : fault.Fault ≢ fault.LastSerial
fault_not_last e = cc e

pub damaged_not_fault : fault.Damaged ≢ fault.Fault
damaged_not_fault e = cc e

pub damaged_not_last : fault.Damaged ≢ fault.LastSerial
damaged_not_last e = cc e

pub last_not_fault : fault.LastSerial ≢ fault.Fault
last_not_fault e = cc e

pub last_not_damaged : fault.LastSerial ≢ fault.Damaged
last_not_damaged e = cc e

-- those of its journal
pub no_memory_not_lost : refusal.Memory ≢ refusal.Fault
no_memory_not_lost e = cc e

pub no_memory_not_last : refusal.Memory ≢ refusal.LastGeneration
no_memory_not_last e = cc e

pub lost_not_last : refusal.Fault ≢ refusal.LastGeneration
lost_not_last e = cc e

pub torn_not_lost : refusal.Damaged ≢ refusal.Fault
torn_not_lost e = cc e

pub torn_not_last : refusal.Damaged ≢ refusal.LastGeneration
torn_not_last e = cc e

pub last_not_lost : refusal.LastGeneration ≢ refusal.Fault
last_not_lost e = cc e
