-- Why an append isn't planned.
use Rattle.std.proofs.Common.{◌≡◌, ◌≢◌, ℕ, Err, ap, ◌∙◌}
use Rattle.std.specs.Prelude.{Result}
use Rattle.buffer_state.specs.declared.limits.AppendFault.{AppendFault}
use Rattle.buffer_state.specs.declared.limits.AppendFault.TheVariants as planned
use Rattle.buffer_store.specs.declared.fault.BufferFault.{BufferFault}
use Rattle.buffer_store.specs.declared.fault.BufferFault.TheVariants as fault
use Rattle.buffer_store.specs.Refusals.{of_plan}

not_failed : (f : AppendFault) → of_plan f ≡ fault.Failed → ⊥
not_failed planned.TooLarge e = cc
not_failed planned.Full e = cc
not_failed planned.LastSerial e = cc

-- no plan's refusal says that the device failed
pub never_failed : (f : AppendFault) (r : Result ℕ BufferFault) → r ≡ Err (of_plan f) → r ≡ Err fault.Failed → ⊥
never_failed f r is q = not_failed f (cc)

not_fault : (f : AppendFault) → of_plan f ≡ fault.Fault → ⊥
not_fault planned.TooLarge e = cc
not_fault planned.Full e = cc
not_fault planned.LastSerial e = cc

-- nor that it fails now
pub never_fault : (f : AppendFault) (r : Result ℕ BufferFault) → r ≡ Err (of_plan f) → r ≡ Err fault.Fault → ⊥
never_fault f r is q = not_fault f (cc)

pub plan_not_fault : (e : BufferFault) (r : Result ℕ BufferFault) → r ≡ Err e → r ≢ Err fault.Fault → e ≢ fault.Fault
plan_not_fault e r is not q = not (is ∙ ap Err q)
