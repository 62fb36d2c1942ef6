-- Why a relay's loop ends.
use Rattle.std.specs.Prelude.{◌≡◌, Option, None, Some, Result, Ok, Err, IfSome}
use Rattle.buffer_store.specs.declared.fault.BufferFault.{BufferFault}
use Rattle.loop_core.specs.declared.fault.LoopFault.{LoopFault}
use Rattle.loop_core.specs.declared.fault.LoopFault.TheVariants as ends
use Rattle.relay_sockets.specs.declared.network.NetFault.{NetFault}
use Rattle.relay_sockets.specs.declared.network.NetFault.TheVariants as net

-- by a refusal of its network
abbrev pub of_network : NetFault → LoopFault
of_network net.Bind = ends.Bind
of_network net.Poll = ends.Poll
of_network net.Memory = ends.Memory

-- where it is a buffer's fault, it is the first one that came of a buffer
abbrev pub IsReason : Option BufferFault → LoopFault → Type 0
IsReason first (ends.Buffer fault) = first ≡ Some fault
IsReason first ends.Bind = Unit {0}
IsReason first ends.Path = Unit {0}
IsReason first ends.Poll = Unit {0}
IsReason first ends.NoNumber = Unit {0}
IsReason first ends.Memory = Unit {0}

-- the fault of a turn, if it has one
abbrev pub fault_in : {T : Type 0} → Result T LoopFault → Option LoopFault
fault_in (Err fault) = Some fault
fault_in (Ok told) = None

-- what is told in the end: the first fault that came of a buffer, or else that of the last turn
abbrev pub told_of : {T : Type 0} → Option BufferFault → Result T LoopFault → Option LoopFault
told_of (Some fault) end = Some (ends.Buffer fault)
told_of None end = fault_in end

-- a buffer's fault that came is told
abbrev pub IsTold : Option BufferFault → Option LoopFault → Type 0
IsTold came told = IfSome came (λ first. told ≡ Some (ends.Buffer first))
