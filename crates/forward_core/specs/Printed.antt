-- How faults are printed.
use Rattle.std.specs.Prelude.{ℕ, List, ◌++◌, codes}
use Rattle.auth_handshake.specs.declared.answers.HandshakeFault.TheVariants.{NotPing, WrongDigest, NotHelo, NotPong, RefusedByServer}
use Rattle.event_modes.specs.Printed as stream
use Rattle.forward_core.specs.declared.fault.SessionFault.{SessionFault}
use Rattle.forward_core.specs.declared.fault.SessionFault.TheVariants.{BadStream, Handshake, BadAck, Closed}
use Rattle.forward_core.specs.declared.fault.SessionError.{SessionError}
use Rattle.forward_core.specs.declared.fault.SessionError.TheVariants.{Memory, Fault}

-- the code of a fault, and behind it that of its reason, if there is one
abbrev pub code_of : SessionFault → List ℕ
code_of (BadStream fault) = codes "Q1 " ++ stream.code_of fault
code_of (Handshake NotPing) = codes "Q2 H1"
code_of (Handshake WrongDigest) = codes "Q2 H2"
code_of (Handshake NotHelo) = codes "Q2 H3"
code_of (Handshake NotPong) = codes "Q2 H4"
code_of (Handshake RefusedByServer) = codes "Q2 H5"
code_of BadAck = codes "Q3"
code_of Closed = codes "Q4"

-- the text of a refusal
abbrev pub error_text : SessionError → List ℕ
error_text Memory = codes "memory"
error_text (Fault fault) = code_of fault
