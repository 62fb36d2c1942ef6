-- How faults are printed.
use Rattle.std.specs.Prelude.{ℕ, List, codes}
use Rattle.msgpack_bytes.specs.declared.answers.MsgFault.TheVariants.{Reserved, TooDeep, TooLong}
use Rattle.event_modes.specs.declared.fault.FeedError.{FeedError}
use Rattle.event_modes.specs.declared.fault.FeedError.TheVariants.{Memory, Fault}
use Rattle.event_modes.specs.declared.fault.ModeFault.{ModeFault}
use Rattle.event_modes.specs.declared.fault.ModeFault.TheVariants.{NotAMessage, BadTag, BadTime, BadRecord, BadEntry, TornPacked, Compressed, BadOption, Bytes}

-- the code of a fault
abbrev pub code_of : ModeFault → List ℕ
code_of NotAMessage = codes "V1"
code_of BadTag = codes "V2"
code_of BadTime = codes "V3"
code_of BadRecord = codes "V4"
code_of BadEntry = codes "V5"
code_of TornPacked = codes "V6"
code_of Compressed = codes "V7"
code_of BadOption = codes "V8"
code_of (Bytes Reserved) = codes "V9 M1"
code_of (Bytes TooDeep) = codes "V9 M2"
code_of (Bytes TooLong) = codes "V9 M3"

-- the text of why a feed gives nothing
abbrev pub error_text : FeedError → List ℕ
error_text Memory = codes "memory"
error_text (Fault fault) = code_of fault
