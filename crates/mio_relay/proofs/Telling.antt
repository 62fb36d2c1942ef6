-- A buffer's fault that came is told in the end.
use Rattle.std.proofs.Common.{◌≡◌, ◌∙◌, ap, refl, Option, None, Some, Result}
use Rattle.buffer_store.specs.declared.fault.BufferFault.{BufferFault}
use Rattle.loop_core.specs.declared.fault.LoopFault.{LoopFault}
use Rattle.mio_relay.specs.Faults.{IsTold, told_of}

-- where it stands until the end
pub told : {T : Type 0} (came last : Option BufferFault) (end : Result T LoopFault) (out : Option LoopFault) → ((fault : BufferFault) → came ≡ Some fault → last ≡ Some fault)
    → out ≡ told_of last end → IsTold came out
told None last end out stands is = tt
told (Some first) last end out stands is = is ∙ ap (λ (l : Option BufferFault). told_of l end) (stands first refl)
