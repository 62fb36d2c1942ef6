-- Why a buffer refuses a call.
use Rattle.buffer_state.specs.declared.limits.AppendFault.{AppendFault}
use Rattle.buffer_state.specs.declared.limits.AppendFault.TheVariants as planned
use Rattle.journal_files.specs.declared.error.JournalError.{JournalError}
use Rattle.journal_files.specs.declared.error.JournalError.TheVariants as journal
use Rattle.buffer_store.specs.declared.fault.BufferFault.{BufferFault}
use Rattle.buffer_store.specs.declared.fault.BufferFault.TheVariants as fault

-- what a plan's refusal is answered as
abbrev pub of_plan : AppendFault → BufferFault
of_plan planned.TooLarge = fault.TooLarge
of_plan planned.Full = fault.Full
of_plan planned.LastSerial = fault.LastSerial

-- what the journal's refusal is answered as
abbrev pub of_journal : JournalError → BufferFault
of_journal journal.Memory = fault.Memory
of_journal journal.Fault = fault.Fault
of_journal journal.Damaged = fault.Damaged
of_journal journal.LastGeneration = fault.LastSerial
