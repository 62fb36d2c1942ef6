-- How faults are printed.
use Rattle.std.specs.Prelude.{ℕ, List, codes}
use Rattle.book_audit.specs.declared.fault.BookFault.{BookFault}
use Rattle.book_audit.specs.declared.fault.BookFault.TheVariants.{Stranger, Double, Missing}

-- the code of a fault
abbrev pub code_of : BookFault → List ℕ
code_of Stranger = codes "A1"
code_of Double = codes "A2"
code_of Missing = codes "A3"
