use Rattle.std.proofs.Common.{ℕ, List, ◌++◌, take}
use Rattle.book_audit.specs.Audits.{lines_of}
use Rattle.book_audit.specs.Naming.{AreNamed}
use Rattle.book_audit.proofs.auditing.Named.add_parts.Given as goal

abbrev pub invariant-loop-part : goal.invariant-loop-part
invariant-loop-part g l = record {
  named : (named : List ℕ) → AreNamed l.fn.pages named l.initial.self.lines → AreNamed l.fn.pages (named ++ lines_of l.leaf (take l.part-index l.parts)) l.self.lines;
}
