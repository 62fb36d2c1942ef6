-- How faults are printed.
use Rattle.std.specs.Prelude.{ℕ, List, codes}
use Rattle.chunk_journal.specs.declared.fault.ReplayError.{ReplayError}
use Rattle.chunk_journal.specs.declared.fault.ReplayError.TheVariants.{Memory, NotSealed, BadRecord}

-- the text of a fault: the code of a journal's
abbrev pub text_of : ReplayError → List ℕ
text_of Memory = codes "out of memory"
text_of NotSealed = codes "J1"
text_of BadRecord = codes "J2"
