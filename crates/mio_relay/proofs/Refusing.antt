-- A network that refuses to wait.
use Rattle.std.proofs.Common.{◌≡◌, ◌∙◌, ap, subst, sym, Option, None, Some, Result, Ok, Err}
use Rattle.std.specs.Prelude.{IfSome}
use Rattle.loop_core.specs.declared.fault.LoopFault.{LoopFault}
use Rattle.relay_sockets.specs.declared.network.NetFault.{NetFault}
use Rattle.mio_relay.specs.Faults.{of_network}

-- what a loop makes of what its network answers
abbrev pub as_told : {T : Type 0} → Result T NetFault → Result T LoopFault
as_told (Ok t) = Ok t
as_told (Err fault) = Err (of_network fault)

-- its refusal ends the loop
pub refused : {T : Type 0} (refusal : Option NetFault) (answer : Result T NetFault) (told : Result T LoopFault) → told ≡ as_told answer
    → IfSome refusal (λ fault. answer ≡ Err fault) → IfSome refusal (λ fault. told ≡ Err (of_network fault))
refused None answer told is same = tt
refused (Some fault) answer told is same = is ∙ ap as_told same

-- what is well is no error
ok_not_err : {T : Type 0} (t : T) (fault : LoopFault) → ◌≡◌ {A = Result T LoopFault} (Ok t) (Err fault) → ⊥
ok_not_err {T} t fault e = subst at e tt
  where
    at : Result T LoopFault → Type 0
    at (Ok _) = Unit {0}
    at (Err _) = ⊥

-- where it didn't refuse, nothing is asked of what comes then
pub went_well : {T U : Type 0} (refusal : Option NetFault) (answer : Result T LoopFault) (t : T) (end : Result U LoopFault) → answer ≡ Ok t
    → IfSome refusal (λ fault. answer ≡ Err (of_network fault)) → IfSome refusal (λ fault. end ≡ Err (of_network fault))
went_well None answer t end well same = tt
went_well (Some fault) answer t end well same = absurd (ok_not_err t (of_network fault) (sym well ∙ same))
